pub mod Blocks
pub mod Endings
pub mod Passes
pub mod Pieces
pub mod Steps
