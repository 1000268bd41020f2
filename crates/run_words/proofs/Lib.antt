mod AtHost
mod Entries
mod Inside
mod Judging
mod Lines
pub mod Marking
mod OfTheWalk
mod Places
mod Printing
mod NewLedger
pub mod Noting
pub mod Spots
