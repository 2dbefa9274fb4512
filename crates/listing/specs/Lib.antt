pub mod Kinds
pub mod Script
pub mod Lines
pub mod Listing
pub mod Unlisted
pub mod Examples
pub mod Sessions
