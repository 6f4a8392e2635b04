pub mod Fill
pub mod Calls
pub mod Private
pub mod Claims
