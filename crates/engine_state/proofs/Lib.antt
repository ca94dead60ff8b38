pub mod Lists
pub mod Lines
mod Pinning
mod Budgets
mod Fullness
mod Wanted
mod Flying
mod Distinct
mod Numbers
mod Viewers
pub mod Steps
mod Libraries
pub mod Rooms
mod SameViews
