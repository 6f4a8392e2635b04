pub mod Fields
pub mod Laws
pub mod Files
pub mod Read
pub mod Claims
pub mod Modelled
