-- Laws that the proofs cite.
pub mod Naming
pub mod Tallies
pub mod Adding
pub mod Keeping
pub mod Counting
pub mod Free
pub mod Worked
