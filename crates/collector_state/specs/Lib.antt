pub mod Collector
pub mod Admission
pub mod Private
pub mod Heard
