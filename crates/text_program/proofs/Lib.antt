pub mod Pieces
pub mod Segments
pub mod Limit
pub mod Ended
pub mod Kept
pub mod Takes
