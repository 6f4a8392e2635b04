pub mod Parts
pub mod Lengths
pub mod Sizes
pub mod Back
pub mod Wholes
