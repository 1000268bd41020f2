pub mod Counting
pub mod Plain
pub mod Ran
pub mod Text
