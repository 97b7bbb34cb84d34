-- What a reader must believe of an index.
pub mod Index
