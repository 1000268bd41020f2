pub mod Chains
pub mod Counts
pub mod Groups
pub mod Index
pub mod Passed
