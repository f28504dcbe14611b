pub mod CountExamples
pub mod Fits
pub mod FoundRefusals
pub mod Given
pub mod Laws
pub mod Moved
pub mod Refutations
pub mod Unwoken
