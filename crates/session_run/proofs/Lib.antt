pub mod Journals
pub mod Served
pub mod Loads
pub mod Arrivals
pub mod Holding
pub mod Texts
pub mod Loaded
pub mod Ending
