pub mod Forms
pub mod Kinds
pub mod Passed
pub mod Reading
pub mod Verbs
