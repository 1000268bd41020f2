pub mod Passed
pub mod Spared
pub mod Stages
pub mod Texts
pub mod Verdict
pub mod Working
