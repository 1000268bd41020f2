pub mod Tracks
pub mod Trees
