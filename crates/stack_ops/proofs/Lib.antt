pub mod Passed
pub mod Sides
