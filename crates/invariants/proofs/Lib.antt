pub mod Walk
pub mod Faults
pub mod Parts
pub mod Each
pub mod Checks
pub mod Members
pub mod Order
