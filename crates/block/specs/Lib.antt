-- What a reader must believe of a block, in reading order.
pub mod Layout
pub mod Claims
