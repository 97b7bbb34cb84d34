-- Why the claims hold, and what the proofs of the run share.
pub mod WholeLists
pub mod Before
pub mod Written
