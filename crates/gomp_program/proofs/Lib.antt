pub mod ActRefutations
mod ExitLists
mod LeadLemmas
pub mod PlaceRefutations
pub mod ProgramExamples
mod ProgramLists
pub mod RangeExamples
pub mod Refutations
