pub mod CommandExamples
pub mod CommandLemmas
pub mod PlainSettings
mod SettingLemmas
