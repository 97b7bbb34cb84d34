-- What a reader must believe of the end of a run.
pub mod Ended
