pub mod Places
pub mod Presences
pub mod Roots
