-- What a reader must believe of the program that prints the listing of a run, in reading order.
pub mod Counts
pub mod Printed
pub mod Program
pub mod Claims
