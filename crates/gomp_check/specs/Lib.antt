pub mod Checked
pub mod Serving
