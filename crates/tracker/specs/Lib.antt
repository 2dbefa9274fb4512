pub mod Bridge
pub mod Form
pub mod Apply
pub mod ConfStates
pub mod Enrol
pub mod Examples
pub mod Refusals
