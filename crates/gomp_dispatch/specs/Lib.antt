pub mod Leaves
pub mod Answers
pub mod Admission
pub mod Serves
