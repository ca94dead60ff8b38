pub mod Lines
pub mod Metadata
pub mod Read
pub mod Kept
pub mod Shown
pub mod Turned
