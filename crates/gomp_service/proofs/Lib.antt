mod ReadLemmas
pub mod ServiceExamples
pub mod SizeLemmas
pub mod Writes
