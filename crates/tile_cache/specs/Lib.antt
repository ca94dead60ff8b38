pub mod Kept
pub mod Pins
pub mod Residents
pub mod Room
