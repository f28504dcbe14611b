pub mod Splits
pub mod Kept
pub mod Refutations
