pub mod Pending
pub mod Table
pub mod Change
pub mod Examples
