-- What is claimed for the tender appendix, in reading order.
pub mod Claims
pub mod Examples
pub mod Needed
