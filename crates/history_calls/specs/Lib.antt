pub mod Answers
pub mod Elements
pub mod Arrays
pub mod Values
pub mod Claims
