pub mod StepText
pub mod LiveText
pub mod Printing
pub mod Examples
