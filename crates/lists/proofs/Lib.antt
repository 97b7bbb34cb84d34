-- Laws of lists, over any element type.
pub mod Lists
pub mod Elements
pub mod Keeping
pub mod Pairwise
pub mod Firsts
pub mod Placing
pub mod Sorting
pub mod Filling
pub mod Shifts
pub mod Dropping
pub mod Numbers
pub mod Distinct
pub mod Concat
