pub mod Counts
pub mod Lists
pub mod Teams
pub mod Reports
