pub mod Books
pub mod Calls
pub mod FreeLists
pub mod FreeTasks
pub mod Keys
pub mod Rows
pub mod Stands
pub mod Tables
