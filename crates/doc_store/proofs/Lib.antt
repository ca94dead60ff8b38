pub mod Keys
pub mod Entries
pub mod Tilesets
pub mod Opening
pub mod Numbers
pub mod Numbered
pub mod Adding
