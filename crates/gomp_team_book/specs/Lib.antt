pub mod Balance
pub mod Others
pub mod Parts
pub mod Replies
