pub mod Finding
pub mod Forms
pub mod Lines
pub mod Tallies
pub mod Walks
