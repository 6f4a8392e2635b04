pub mod Header
pub mod Sizes
pub mod Reading
pub mod Building
pub mod Bounds
pub mod Claims
