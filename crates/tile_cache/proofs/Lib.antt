pub mod Texts
pub mod Entries
pub mod Pinning
pub mod Budgets
pub mod Removing
pub mod Walks
pub mod Admitting
