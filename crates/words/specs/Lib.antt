-- What a reader must believe of the texts of numbers, neighbours, marks and messages, in reading order.
pub mod Words
pub mod Writing
pub mod Claims
