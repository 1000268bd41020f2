pub mod FormedRun
pub mod Forms
pub mod Passed
