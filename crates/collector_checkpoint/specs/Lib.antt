pub mod Checkpoint
pub mod Private
