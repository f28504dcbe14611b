pub mod Classes
pub mod Examples
pub mod Lines
pub mod Order
pub mod Queues
