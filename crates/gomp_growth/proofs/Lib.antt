pub mod RangeExamples
pub mod Refutations
