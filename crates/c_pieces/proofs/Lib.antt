pub mod Scans
pub mod Addings
pub mod Pieces
