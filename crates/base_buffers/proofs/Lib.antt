pub mod Segments
pub mod Buffer
pub mod Stores
pub mod Moves
