-- What a reader must believe of a field, in reading order.
pub mod Fields
pub mod Claims
