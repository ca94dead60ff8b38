pub mod Padding
pub mod Views
