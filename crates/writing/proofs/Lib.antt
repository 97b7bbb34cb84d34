-- Laws that belong to no one function.
pub mod WritingLaws
pub mod ReadBack
pub mod Rewritten
pub mod Example
