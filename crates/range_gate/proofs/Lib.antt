pub mod CellLaws
pub mod Layouts
pub mod Passed
pub mod Rising
pub mod Sweep
pub mod Turns
pub mod Unended
