-- Why the claims hold: what the candidates are and which of them may happen, then each claim.
pub mod Candidates
pub mod Guarded
pub mod Undelivered
pub mod AlikeLists
pub mod InOrder
pub mod Few
pub mod WellFormed
pub mod OneStep
pub mod Exactly
pub mod Worked
