pub mod Own
pub mod Refused
pub mod Rooms
pub mod Tests
