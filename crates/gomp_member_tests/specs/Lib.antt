pub mod Ledgers
pub mod Seats
