pub mod Compare
pub mod Told
pub mod Steps
pub mod Examples
