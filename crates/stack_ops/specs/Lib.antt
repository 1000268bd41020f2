pub mod Footprints
pub mod Ops
pub mod Passed
