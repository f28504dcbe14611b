pub mod Stands
pub mod Replies
pub mod LocksMade
pub mod Resolved
