pub mod Counts
pub mod Parts
pub mod Locked
pub mod Shared
