pub mod Rows
pub mod States
pub mod Again
pub mod Recovered
pub mod Closings
pub mod Example
