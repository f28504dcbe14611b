pub mod Forkers
pub mod Exchanges
pub mod Runs
