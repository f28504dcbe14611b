pub mod AllAnswers
pub mod AllCalls
pub mod AllSteps
pub mod NotedTakes
pub mod OnlyShares
