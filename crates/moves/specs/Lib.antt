-- What a reader must believe of the parts of a step, in reading order.
pub mod Holders
pub mod Sends
