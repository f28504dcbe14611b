pub mod Levels
pub mod Serving
