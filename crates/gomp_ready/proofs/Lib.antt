mod Deques
mod InOrder
mod Kept
pub mod Laws
mod Looked
mod Marked
mod Own
mod Passed
mod ReadyExamples
pub mod Refutations
mod Room
mod WithTask
