pub mod Ends
pub mod Process
