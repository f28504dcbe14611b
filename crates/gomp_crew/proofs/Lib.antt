pub mod Hands
pub mod Outcomes
pub mod Refutations
