mod Lookups
mod Third
mod After
mod Blocks
mod Split
mod Draw
pub mod Parts
pub mod Listed
pub mod Chosen
