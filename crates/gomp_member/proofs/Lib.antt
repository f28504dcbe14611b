mod BookReplies
pub mod Examples
pub mod Free
pub mod KnowsAfter
pub mod OwnTests
pub mod Refutations
