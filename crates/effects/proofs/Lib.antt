-- What judges one step over the arrays, and what its stores make of the line there, in reading order.
pub mod Posting
pub mod Working
pub mod Stores
pub mod Asked
pub mod Judging
pub mod Effects
pub mod Starting
pub mod Underway
