pub mod WordLemmas
mod NumberLemmas
mod BlankLemmas
pub mod RangeExamples
