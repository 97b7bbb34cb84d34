-- Why a walk gives the blocks in stored order and then the end, and what the proofs of the view share.
pub mod Sight
pub mod Walks
