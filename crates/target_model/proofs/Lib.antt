pub mod Bytes
mod Composing
mod Ends
mod Keeping
mod Reading
mod Writing
