pub mod Finds
pub mod Tuples
