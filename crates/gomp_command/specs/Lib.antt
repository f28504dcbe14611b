pub mod CommandLine
pub mod Examples
pub mod Settings
