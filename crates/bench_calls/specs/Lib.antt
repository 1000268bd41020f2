pub mod Requests
pub mod Rounds
