pub mod Frame
pub mod Output
pub mod Fields
pub mod Addressing
pub mod Repeater
pub mod Claims
pub mod Private
