mod TalkLemmas
mod LockLemmas
mod InputLemmas
mod ServeLemmas
pub mod LawRefutations
pub mod Laws
pub mod TalkExamples
