pub mod Lost
pub mod Swept
pub mod Settled
pub mod Started
pub mod Recovers
