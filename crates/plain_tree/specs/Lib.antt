pub mod Preorder
pub mod Windows
pub mod Grown
pub mod Listed
pub mod Refusals
pub mod Standing
