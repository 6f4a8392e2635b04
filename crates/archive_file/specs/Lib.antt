pub mod Archive
pub mod Private
