pub mod Formed
pub mod Fresh
pub mod Passed
