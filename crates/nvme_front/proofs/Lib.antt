pub mod Walks
pub mod Sending
pub mod Requests
pub mod Ending
pub mod Standing
pub mod Answering
pub mod Doing
