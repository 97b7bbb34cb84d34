-- What a reader must believe of the roll call.
pub mod RollCall
