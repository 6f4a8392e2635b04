pub mod Blocks
pub mod Cutting
pub mod Claims
