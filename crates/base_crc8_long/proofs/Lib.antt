pub mod Several
pub mod Tables
