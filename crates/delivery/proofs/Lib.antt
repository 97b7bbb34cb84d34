-- Why the claims hold: the examples are computed; then the step rules, and the sentences of the text.
pub mod Worked
pub mod Agreement
pub mod Sentences
