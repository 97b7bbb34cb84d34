-- Laws of filling.
pub mod Filling
