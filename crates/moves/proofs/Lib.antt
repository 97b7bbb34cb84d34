-- What the proofs of the parts of a step share.
pub mod Holding
pub mod Sending
