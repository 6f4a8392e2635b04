pub mod Said
pub mod States
pub mod Growing
pub mod Turning
pub mod Calling
pub mod Noting
pub mod Keeping
pub mod Claims
