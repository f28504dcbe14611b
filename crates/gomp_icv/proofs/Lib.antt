mod EnvWordLemmas
pub mod RangeExamples
mod Sizes
pub mod ValueExamples
pub mod TeamExamples
pub mod WordExamples
