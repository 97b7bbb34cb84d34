-- What a reader must believe of a roll.
pub mod Roll
