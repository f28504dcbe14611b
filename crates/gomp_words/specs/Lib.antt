pub mod Calls
pub mod Kinds
pub mod Replies
pub mod StepWords
