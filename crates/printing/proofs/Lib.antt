-- Why the listing is that of the run, and what is proved of the program.
pub mod Printing
pub mod Answers
pub mod Sixteen
