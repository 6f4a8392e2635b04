pub mod Cells
pub mod Flushes
pub mod Walks
pub mod Closing
pub mod Packs
pub mod Within
pub mod Removal
