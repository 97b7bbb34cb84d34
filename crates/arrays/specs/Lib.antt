-- What a reader must believe of the arrays, in reading order.
pub mod Arrays
pub mod Reading
pub mod Claims
