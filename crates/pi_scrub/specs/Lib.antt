pub mod Faults
pub mod Looks
pub mod Scrubbed
pub mod Steps
