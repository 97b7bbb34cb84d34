-- Laws that the proofs by hand cite.
pub mod While
pub mod Stage
