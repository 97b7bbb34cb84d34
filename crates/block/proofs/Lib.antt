-- Laws that belong to no one function.
pub mod PlaceLaws
pub mod Asking
pub mod FieldLaws
pub mod Ways
pub mod Tested
