pub mod Output
pub mod Serving
