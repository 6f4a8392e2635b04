pub mod Rows
pub mod Packing
pub mod Pieces
pub mod Salvage
pub mod Removal
pub mod Runs
