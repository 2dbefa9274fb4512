pub mod Words
pub mod Entries
pub mod Refusals
pub mod Unwritten
pub mod Steps
pub mod Sizes
pub mod Examples
