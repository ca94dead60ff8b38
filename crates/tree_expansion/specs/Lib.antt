pub mod Expansion
pub mod Growth
pub mod Whole
pub mod Seen
