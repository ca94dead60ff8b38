pub mod Counts
pub mod Fetches
pub mod Library
pub mod Memory
pub mod Opening
pub mod Paths
pub mod Puts
