pub mod Ledgers
pub mod Lends
pub mod Nested
pub mod Seats
