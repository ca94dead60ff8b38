pub mod Consequences
pub mod Corners
pub mod Gaps
pub mod Products
pub mod RootBounds
mod ShiftedSizes
