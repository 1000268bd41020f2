pub mod Changes
pub mod Reflected
pub mod Registers
