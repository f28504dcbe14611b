pub mod Answered
pub mod LawRefutations
pub mod Laws
pub mod Refutations
pub mod WaitExamples
pub mod WordsKeep
pub mod WordsLaws
pub mod WordsRefutations
