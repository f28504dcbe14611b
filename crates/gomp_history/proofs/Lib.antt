pub mod HistoryExamples
pub mod Places
