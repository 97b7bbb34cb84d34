-- Laws that belong to no one function.
pub mod Both
pub mod Cuts
pub mod Endian
pub mod Sums
pub mod Zeros
pub mod Overwritten
