pub mod Docs
pub mod Store
pub mod States
pub mod Kept
