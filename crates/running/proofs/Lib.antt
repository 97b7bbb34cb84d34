-- What the proofs of the loop share.
pub mod Ending
