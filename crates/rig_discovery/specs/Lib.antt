pub mod Answers
pub mod Discovery
pub mod Openings
pub mod Passed
