mod Drawing
pub mod Filled
pub mod Lines
pub mod Passed
mod Sharing
pub mod Staying
mod Texts
mod Tracking
mod Walks
