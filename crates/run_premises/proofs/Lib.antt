pub mod Accounts
pub mod Clean
mod Delivered
pub mod Escapes
pub mod Exact
pub mod FormRows
pub mod Frames
pub mod Known
pub mod Lines
mod Named
pub mod Near
pub mod OneWay
pub mod Passed
pub mod Prefixes
pub mod Runs
pub mod Shown
pub mod Sums
pub mod Ways
