pub mod Parts
pub mod Answers
pub mod Admitting
pub mod Rows
pub mod Emitting
