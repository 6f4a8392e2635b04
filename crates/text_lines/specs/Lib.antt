pub mod Ascii
pub mod Decimal
pub mod Hex
pub mod Reading
pub mod Claims
pub mod Private
