pub mod Accepts
pub mod Named
mod Pairs
mod Found
mod Answers
mod Read
