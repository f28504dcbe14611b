pub mod Scans
pub mod Taken
pub mod Seats
pub mod Whole
pub mod Handed
pub mod Refutations
