pub mod Tests
pub mod SectionSteps
pub mod SingleSteps
