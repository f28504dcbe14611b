pub mod Moved
pub mod Arrivals
pub mod Inside
pub mod Starts
