pub mod Back
pub mod Likeness
pub mod Saying
