pub mod Farthest
pub mod ViewLimits
