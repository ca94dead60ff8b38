pub mod Rows
pub mod Texts
pub mod Writing
pub mod StreamsSeen
pub mod ReadingBack
