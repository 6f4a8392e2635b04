pub mod Block
pub mod Rows
pub mod Run
pub mod Claims
