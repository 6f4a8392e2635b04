pub mod Scan
pub mod Adding
pub mod Packer
pub mod Claims
