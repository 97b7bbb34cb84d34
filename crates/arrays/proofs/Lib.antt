-- Laws that belong to no one function.
pub mod Reading
pub mod Lines
pub mod Tables
pub mod Writing
