pub mod FormedScript
pub mod Passed
