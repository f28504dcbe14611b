pub mod ReadyTasks
pub mod Schedulers
pub mod Startable
pub mod Calls
pub mod Passed
