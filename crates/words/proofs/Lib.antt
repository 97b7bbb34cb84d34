-- Laws that belong to no one function.
pub mod Digits
pub mod Written
pub mod Texts
pub mod Spaces
