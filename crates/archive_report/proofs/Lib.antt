pub mod Windows
pub mod Places
pub mod Testing
pub mod Blocks
pub mod Calls
pub mod Arrays
