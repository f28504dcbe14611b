pub mod CountLaws
pub mod CheckExamples
