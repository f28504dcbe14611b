pub mod Examples
pub mod Found
pub mod Refutations
pub mod Started
