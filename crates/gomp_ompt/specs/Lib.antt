pub mod Counts
pub mod Points
pub mod Records
pub mod Table
pub mod Tools
pub mod Traces
