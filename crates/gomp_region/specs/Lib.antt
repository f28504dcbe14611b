pub mod ScriptText
pub mod BlockGrammar
pub mod BlockEnds
pub mod Printing
pub mod Examples
