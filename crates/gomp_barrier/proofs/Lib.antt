pub mod BarrierExamples
pub mod BarrierKeeps
pub mod BarrierSteps
pub mod LeaveExamples
pub mod Laws
mod BoundKeeps
pub mod Refutations
mod RegionEnds
pub mod TaskExamples
