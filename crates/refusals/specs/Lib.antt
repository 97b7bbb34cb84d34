-- What every entry point promises, in reading order.
pub mod Refusals
pub mod Rooms
