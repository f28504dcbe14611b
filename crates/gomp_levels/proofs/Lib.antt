mod KeptVariables
pub mod Refutations
