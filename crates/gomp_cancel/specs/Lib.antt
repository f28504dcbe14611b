pub mod Cancellations
pub mod Examples
