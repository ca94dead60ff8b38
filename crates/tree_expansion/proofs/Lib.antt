mod Within
mod Learned
mod Grows
mod Agreeing
pub mod Wholes
mod Seeing
mod Waits
pub mod Unseen
