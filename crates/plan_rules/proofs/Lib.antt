pub mod Known
pub mod Laws
pub mod Lawful
mod Rows
