mod Answering
mod Opens
pub mod Bytes
pub mod Devices
pub mod Opened
pub mod Passed
mod Steps
pub mod Telling
pub mod ToldSizes
