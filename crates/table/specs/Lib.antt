-- What a reader must believe of a table, in reading order.
pub mod Blocks
pub mod Fault
pub mod Refusals
pub mod Smallest
pub mod Index
pub mod Claims
