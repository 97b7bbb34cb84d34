-- Why the answer means what the paper says, and what the proofs of the questions share.
pub mod Meanings
pub mod Asking
pub mod Standing
pub mod Staying
