pub mod Children
pub mod Standing
