pub mod Start
pub mod Private
pub mod Claims
