-- What is claimed of the delivery of an introduction in the order of lemma 3's proof, in reading order.
pub mod Lemma3
pub mod Examples
pub mod Claims
