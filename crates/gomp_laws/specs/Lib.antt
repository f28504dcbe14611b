pub mod Headline
pub mod LawExamples
pub mod Laws
pub mod Replies
pub mod Rules
