pub mod ByFields
