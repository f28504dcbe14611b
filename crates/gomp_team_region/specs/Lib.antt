pub mod Regions
pub mod Settled
