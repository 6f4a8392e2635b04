pub mod Site
pub mod Claims
pub mod Bytes
