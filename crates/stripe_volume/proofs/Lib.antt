pub mod Apart
pub mod Chunks
pub mod Places
