pub mod Plan
pub mod Claims
pub mod Search
