-- Laws that belong to no one function.
pub mod Ways
pub mod Refusals
pub mod Writing
pub mod Records
pub mod ReadBack
