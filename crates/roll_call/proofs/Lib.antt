-- Laws that the proofs cite.
pub mod Counts
pub mod Reading
pub mod Amount
