-- What the proofs of the rules share.
pub mod Ways
