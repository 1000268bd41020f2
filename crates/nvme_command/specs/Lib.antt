pub mod Replies
pub mod Fits
pub mod Done
pub mod Causes
pub mod Lines
pub mod Texts
pub mod Sessions
