pub mod Varints
pub mod Examples
