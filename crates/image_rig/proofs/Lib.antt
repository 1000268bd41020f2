pub mod Changing
pub mod Devices
pub mod Formats
pub mod FreshHead
pub mod Migrates
pub mod Short
pub mod Heads
pub mod Told
pub mod Units
mod Keeping
