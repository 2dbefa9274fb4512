pub mod Places
pub mod Set
pub mod Walk
pub mod Examples
