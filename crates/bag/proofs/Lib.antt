-- What the proofs of the bag share, and what callers may cite of it.
pub mod Laws
pub mod Keys
pub mod Orders
