pub mod ClaimsAlone
pub mod AnsweredAlone
mod OwnPlace
mod OwnSteps
pub mod Refutations
