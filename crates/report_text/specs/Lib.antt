pub mod Report
pub mod Trace
pub mod Writing
