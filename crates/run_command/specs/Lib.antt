pub mod Fallen
pub mod Followed
pub mod Layers
pub mod Passed
pub mod Premises
pub mod Texts
pub mod Verdict
pub mod Working
