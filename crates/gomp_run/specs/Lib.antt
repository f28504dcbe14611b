pub mod Asks
pub mod Output
pub mod Serving
