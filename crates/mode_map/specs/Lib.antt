pub mod FailureTable
pub mod Failures
pub mod Finders
pub mod Modes
pub mod NearFlips
pub mod OtherFailures
