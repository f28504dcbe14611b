pub mod Arrivals
pub mod Starts
