pub mod Within
pub mod WordBlocks
pub mod Unplugged
pub mod SameState
