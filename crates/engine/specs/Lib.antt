-- What a reader must believe of the run, in reading order.
pub mod Ran
pub mod Claims
