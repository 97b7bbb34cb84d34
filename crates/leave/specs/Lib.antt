-- What a reader must believe of the leave question, in reading order.
pub mod Leave
pub mod Claims
