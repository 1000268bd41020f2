pub mod Over
pub mod Passed
