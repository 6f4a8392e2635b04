pub mod Statuses
pub mod Checks
pub mod Sames
pub mod Blocks
