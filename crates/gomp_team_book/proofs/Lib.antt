pub mod Examples
pub mod Kept
pub mod Laws
pub mod Moved
pub mod Refutations
