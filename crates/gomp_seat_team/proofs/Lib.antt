pub mod Ended
pub mod Entering
pub mod Refutations
