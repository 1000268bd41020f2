pub mod Rewrites
pub mod Tags
