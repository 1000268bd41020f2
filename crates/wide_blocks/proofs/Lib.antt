pub mod Bits
mod Checks
mod Makes
mod Moves
