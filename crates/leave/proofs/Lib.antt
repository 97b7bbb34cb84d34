-- Why the answer means what the paper says, and what the proofs of the question share.
pub mod Meanings
pub mod Asking
pub mod Holding
pub mod Leaving
