pub mod Archived
pub mod Claims
pub mod Runs
pub mod Places
pub mod Outputs
pub mod Closed
