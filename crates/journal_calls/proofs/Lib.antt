pub mod Judged
pub mod Runs
pub mod Agreed
pub mod Claims
pub mod Given
