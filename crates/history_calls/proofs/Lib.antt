pub mod Answers
pub mod Bursts
pub mod Elements
pub mod Follow
pub mod Claims
