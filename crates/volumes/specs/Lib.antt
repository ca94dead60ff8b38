pub mod Cells
pub mod Distances
pub mod Limits
pub mod Moves
pub mod Planes
