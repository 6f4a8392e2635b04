pub mod Records
pub mod Private
