pub mod Row
pub mod Buffer
pub mod Append
pub mod Identity
pub mod Claims
