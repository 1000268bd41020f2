pub mod Decoded
pub mod Faults
pub mod Forms
pub mod Passed
pub mod Rule
