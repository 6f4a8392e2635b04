pub mod Frames
pub mod Reading
pub mod Building
pub mod Addressed
pub mod Parts
pub mod RoundTrip
pub mod Repeating
pub mod Laws
