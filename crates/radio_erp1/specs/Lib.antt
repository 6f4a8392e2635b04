pub mod Status
pub mod Subtelegram
pub mod Same
pub mod Claims
pub mod Private
