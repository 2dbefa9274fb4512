pub mod Layout
pub mod Reply
pub mod Asked
pub mod Call
pub mod Unplugs
pub mod Examples
