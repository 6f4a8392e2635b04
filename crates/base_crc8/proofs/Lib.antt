pub mod Divided
pub mod Linear
pub mod Words
