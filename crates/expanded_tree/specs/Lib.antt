pub mod Facts
pub mod Tree
pub mod Standing
