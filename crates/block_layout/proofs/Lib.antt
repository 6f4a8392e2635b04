pub mod BigEndian
pub mod Cell
pub mod Block
