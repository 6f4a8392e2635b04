pub mod Step
pub mod Print
pub mod Claims
pub mod Private
