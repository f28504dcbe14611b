pub mod Seats
pub mod Calls
pub mod Bound
pub mod Stands
pub mod Examples
