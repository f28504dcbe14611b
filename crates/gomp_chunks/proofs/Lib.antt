pub mod GuidedSpots
pub mod NextPieces
pub mod PieceAt
pub mod PieceExamples
pub mod Queues
pub mod RangeExamples
pub mod SpotExamples
