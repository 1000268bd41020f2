pub mod Passed
mod Spans
pub mod Unaltered
pub mod Unfailing
pub mod Xored
