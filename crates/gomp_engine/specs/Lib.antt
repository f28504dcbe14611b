pub mod Answers
pub mod Calls
pub mod Engines
pub mod Settings
