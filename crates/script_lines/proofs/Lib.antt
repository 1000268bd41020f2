mod Gathering
pub mod Ranges
