pub mod TextLemmas
mod PayloadLemmas
pub mod ItemLemmas
pub mod LineExamples
pub mod TextExamples
pub mod LiveExamples
pub mod PrintExamples
pub mod RangeExamples
