pub mod Loading
pub mod Obeying
pub mod Desks
pub mod Sessions
