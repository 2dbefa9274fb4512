pub mod Restore
pub mod Steps
pub mod Examples
