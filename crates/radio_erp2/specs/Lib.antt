pub mod Private
