pub mod Examples
pub mod RefusedAs
pub mod Refutations
