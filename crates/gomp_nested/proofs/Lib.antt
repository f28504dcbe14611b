mod ForkedRegions
pub mod KeptVariables
pub mod Refutations
