pub mod Hands
pub mod Outcomes
