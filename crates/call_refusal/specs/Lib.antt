pub mod Causes
pub mod Passed
pub mod Refusals
pub mod Texts
