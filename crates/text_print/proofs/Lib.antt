pub mod Parts
pub mod Bound
pub mod Draining
pub mod Chunk
pub mod Finishing
pub mod Whole
pub mod Turning
pub mod Runs
