-- What a reader must believe of the printed listing, in reading order.
pub mod Listing
pub mod Claims
