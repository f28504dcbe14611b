pub mod Rows
pub mod Stands
pub mod States
pub mod Calls
pub mod Examples
