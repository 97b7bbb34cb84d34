-- Laws that belong to no one function.
pub mod Lines
pub mod Blocks
pub mod Example
