-- What a reader must believe of the steps that may happen next, in reading order.
pub mod Allowed
pub mod Examples
pub mod Claims
