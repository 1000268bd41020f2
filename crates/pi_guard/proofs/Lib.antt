pub mod RegisterLemmas
pub mod Division
pub mod Rows
pub mod Linear
pub mod Folds
mod Nibbles
mod Lookup
mod Windows
mod Sparse
pub mod Trailing
mod Debts
mod Alignments
mod BroadDebts
mod Closing
mod QuarterEnds
mod Sixteens
mod Halving
mod Sums
mod Numbers
mod Runs
pub mod GuardSizes
