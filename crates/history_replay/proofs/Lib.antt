pub mod Records
pub mod Filling
pub mod Lent
pub mod Making
pub mod Called
pub mod Running
