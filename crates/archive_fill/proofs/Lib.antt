pub mod Records
pub mod Together
pub mod Cases
pub mod InArchive
pub mod Claims
