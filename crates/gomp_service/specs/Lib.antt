pub mod Notes
pub mod Reading
pub mod Statuses
pub mod Writing
