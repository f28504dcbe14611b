pub mod Links
pub mod Rows
pub mod Stands
pub mod Calls
pub mod Examples
