pub mod Fronts
pub mod Reading
pub mod Putting
pub mod Found
