pub mod Report
pub mod Pieces
pub mod Claims
