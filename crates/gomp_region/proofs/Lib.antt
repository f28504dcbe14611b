pub mod BlockLaws
pub mod EndLaws
pub mod GivenExamples
pub mod RangeExamples
pub mod Refutations
pub mod ScriptExamples
pub mod TextLemmas
