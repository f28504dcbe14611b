pub mod Waits
pub mod Runs
pub mod Words
pub mod Examples
