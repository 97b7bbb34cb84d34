-- What is claimed of the site codes, in reading order.
pub mod Sites
pub mod Examples
pub mod Claims
