mod ProgramCounts
pub mod Refutations
mod ReportLemmas
pub mod RunNumbers
