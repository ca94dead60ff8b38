pub mod Keys
mod Prefixes
