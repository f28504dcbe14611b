pub mod Variables
pub mod Teams
pub mod EnvValues
pub mod EnvWords
pub mod Examples
