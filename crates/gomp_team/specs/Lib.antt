pub mod Seats
pub mod Moves
pub mod Answers
pub mod Members
pub mod Waits
