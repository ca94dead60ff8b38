pub mod Addresses
pub mod Bases
pub mod PlainPaths
pub mod Templates
