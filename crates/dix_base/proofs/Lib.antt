mod Over
mod Cut
mod Octets
pub mod Counts
pub mod Appending
pub mod Stores
pub mod Taking
