mod Sizes
mod ForkedRegions
pub mod Refutations
