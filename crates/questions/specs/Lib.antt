-- What a reader must believe of a question's answer and of the question whether a table is in line, in reading order.
pub mod Told
pub mod Claims
