pub mod Children
pub mod Counts
pub mod Knowing
pub mod Powers
pub mod Sizes
pub mod Subtrees
