pub mod Lines
pub mod Chunks
pub mod Collect
pub mod Buffer
pub mod Claims
