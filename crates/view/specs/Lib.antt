-- What a reader must believe of the view, in reading order.
pub mod View
pub mod Claims
