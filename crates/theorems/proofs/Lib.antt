pub mod Details
pub mod Theorems
