pub mod Ways
pub mod Holds
pub mod Known
mod Steps
mod Delivery
mod Whole
pub mod Stale
mod Mending
mod Repaired
mod Rows
mod Meets
pub mod WriteByLegs
pub mod ReadByLegs
pub mod OtherOps
pub mod Stretches
pub mod Sizes
pub mod Pieces
