-- What a reader must believe of bytes.
pub mod Bytes
