mod Braces
mod CheckedTexts
mod JsonEnds
pub mod OwnTexts
mod PlainBelow
mod Spaces
mod States
