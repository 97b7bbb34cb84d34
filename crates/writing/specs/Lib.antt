-- What a reader must believe of a block that is written, in reading order.
pub mod Encoding
pub mod Claims
