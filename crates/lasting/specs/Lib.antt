-- What is claimed of lines in line, in reading order.
pub mod Examples
pub mod Claims
