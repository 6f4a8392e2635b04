pub mod Batch
pub mod Claims
