pub mod Repack
pub mod Packer
pub mod Claims
