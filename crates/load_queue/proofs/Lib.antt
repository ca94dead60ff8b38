pub mod Bests
pub mod Changes
pub mod Keys
pub mod References
pub mod Trees
mod Shown
