pub mod Answers
pub mod Loads
pub mod Outcomes
