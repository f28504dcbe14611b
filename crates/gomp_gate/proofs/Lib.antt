pub mod FreeSlots
pub mod GateExamples
pub mod Gates
pub mod Refutations
pub mod Shapes
