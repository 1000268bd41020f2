pub mod Flips
pub mod Comes
pub mod Verdicts
pub mod Rows
pub mod Swept
pub mod Ground
pub mod Halts
