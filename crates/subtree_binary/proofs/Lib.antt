mod Chains
pub mod Lasts
mod Sizes
mod Counted
mod Absent
mod Chunked
