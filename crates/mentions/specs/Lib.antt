-- What a reader must believe of the mentions, in reading order.
pub mod Mentions
pub mod Examples
pub mod Tally
pub mod Growing
pub mod Claims
