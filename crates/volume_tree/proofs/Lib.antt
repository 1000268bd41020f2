pub mod Putting
pub mod Following
pub mod Gathering
mod Spots
mod Placing
pub mod Stretches
