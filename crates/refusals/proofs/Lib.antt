-- Laws of refusals and of rooms.
pub mod Refusing
pub mod Rooms
