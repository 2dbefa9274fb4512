pub mod Calls
pub mod Before
pub mod Stages
pub mod Examples
