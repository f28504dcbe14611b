pub mod Plans
pub mod Spots
pub mod Examples
