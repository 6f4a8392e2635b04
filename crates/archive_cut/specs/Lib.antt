pub mod Cut
pub mod Calls
pub mod Private
pub mod Claims
