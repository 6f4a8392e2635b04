pub mod Writing
pub mod Reading
pub mod Restoring
pub mod Spelled
