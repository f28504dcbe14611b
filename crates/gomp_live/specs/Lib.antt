pub mod Talk
pub mod Stands
pub mod Input
pub mod Serving
