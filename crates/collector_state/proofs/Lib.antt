pub mod Inside
pub mod Arrays
pub mod Copies
pub mod Times
pub mod Accepting
pub mod Marks
mod Decided
pub mod Moving
pub mod Classifying
pub mod Admitting
pub mod Stepping
pub mod Sending
pub mod Hearing
pub mod Counts
pub mod Loans
