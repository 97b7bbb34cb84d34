-- What a reader must believe of a step list, in reading order.
pub mod Steps
pub mod Claims
