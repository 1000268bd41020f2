pub mod Entries
pub mod Faults
pub mod Places
pub mod Tables
