pub mod Laws
pub mod Places
pub mod RangeExamples
mod RecordExamples
pub mod RecordsGiven
pub mod Refutations
mod ToolExamples
pub mod TraceSteps
