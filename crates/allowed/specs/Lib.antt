-- What the parts of the list promise one another.
pub mod Parts
