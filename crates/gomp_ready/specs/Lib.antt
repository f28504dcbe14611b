pub mod Ends
pub mod Marks
pub mod Ready
