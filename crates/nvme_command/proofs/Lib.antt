pub mod Completes
mod Opening
mod Steps
pub mod Sizes
pub mod Kept
