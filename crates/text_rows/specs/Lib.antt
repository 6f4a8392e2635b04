pub mod Codes
pub mod Text
pub mod Formats
pub mod Longest
pub mod Claims
pub mod Private
