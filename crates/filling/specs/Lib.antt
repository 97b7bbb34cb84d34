-- What a reader must believe of a lent room that is filled.
pub mod Filled
