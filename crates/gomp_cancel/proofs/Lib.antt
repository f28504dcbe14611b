pub mod Laws
mod CancellationExamples
pub mod Marked
pub mod Refutations
