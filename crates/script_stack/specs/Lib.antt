pub mod Beginning
pub mod Causes
pub mod Followed
pub mod Passed
pub mod Sends
