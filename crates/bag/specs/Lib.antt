-- What a reader must believe of a bag.
pub mod Held
pub mod Changes
pub mod Order
