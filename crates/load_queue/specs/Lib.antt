pub mod Best
pub mod Entries
pub mod Queues
pub mod Trees
