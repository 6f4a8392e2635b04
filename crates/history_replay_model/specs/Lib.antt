pub mod Operation
pub mod Record
pub mod Replay
pub mod Claims
