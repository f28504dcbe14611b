pub mod BookLemmas
pub mod HolderLemmas
pub mod Served
pub mod StandsExamples
