pub mod Keep
pub mod Claims
pub mod Private
