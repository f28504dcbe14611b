pub mod AnsweredLines
pub mod ServingExamples
