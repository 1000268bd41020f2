pub mod Commands
pub mod Completions
pub mod Refusals
pub mod Translation
pub mod Buffers
pub mod Answers
pub mod Exchanges
pub mod Results
