pub mod Causes
pub mod LinesTold
