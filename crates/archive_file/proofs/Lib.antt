pub mod Cells
pub mod Scans
pub mod Puts
pub mod Calls
pub mod Tested
