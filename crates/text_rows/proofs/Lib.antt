pub mod Digits
pub mod Words
pub mod Longest
pub mod ReadBack
pub mod Pasted
