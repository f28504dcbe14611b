pub mod Courses
pub mod Refutations
mod CourseExamples
