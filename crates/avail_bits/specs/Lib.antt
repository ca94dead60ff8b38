pub mod Bitstreams
pub mod Counts
pub mod Forms
pub mod Morton
pub mod Spread
