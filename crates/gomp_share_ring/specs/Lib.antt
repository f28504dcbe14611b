pub mod AllLaws
pub mod AllShares
