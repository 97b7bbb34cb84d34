-- What a reader must believe of one station's part in a step.
pub mod Decided
