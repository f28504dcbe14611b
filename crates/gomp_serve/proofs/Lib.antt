pub mod EndExamples
mod EndLemmas
mod NumberLemmas
pub mod Refutations
