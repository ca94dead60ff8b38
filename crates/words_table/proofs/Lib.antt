pub mod CutWords
pub mod Given
pub mod Naming
pub mod OnlyWord
pub mod PlainWords
