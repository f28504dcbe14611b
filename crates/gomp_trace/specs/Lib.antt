pub mod Lanes
pub mod Nesting
pub mod Runs
pub mod Names
pub mod Json
pub mod Serving
