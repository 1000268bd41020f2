pub mod Clean
pub mod Passing
pub mod Again
pub mod Flips
