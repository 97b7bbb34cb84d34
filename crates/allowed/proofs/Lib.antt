-- Laws that belong to no one function.
pub mod Holding
pub mod Verdicts
pub mod Offered
pub mod Actions
pub mod Putting
pub mod Listing
