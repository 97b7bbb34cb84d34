-- What a reader must believe of lists, in reading order.
pub mod Lists
pub mod Places
pub mod Numbers
