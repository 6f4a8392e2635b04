pub mod State
pub mod Lawful
pub mod Calls
pub mod Private
pub mod Claims
