pub mod Cells
pub mod Conflicts
pub mod Gates
pub mod Layout
pub mod Passed
pub mod Prints
pub mod Windows
