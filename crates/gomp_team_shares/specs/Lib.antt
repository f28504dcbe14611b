pub mod Constructs
pub mod Inside
