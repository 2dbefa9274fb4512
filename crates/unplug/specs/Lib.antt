pub mod Words
pub mod Unplugs
pub mod Examples
