pub mod Untelling
pub mod WantOfMemory
