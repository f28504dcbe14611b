pub mod Calls
pub mod Moments
pub mod Plays
pub mod Premises
pub mod Rule
pub mod Seats
pub mod Words
