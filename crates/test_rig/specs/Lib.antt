pub mod Untold
pub mod Answering
