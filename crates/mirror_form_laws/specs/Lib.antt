pub mod FormedMirror
pub mod Forms
pub mod Passed
