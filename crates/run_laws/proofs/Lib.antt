pub mod Along
pub mod AtTarget
pub mod Backs
pub mod Behind
pub mod Between
pub mod BlocksApart
pub mod CleanWhereRead
pub mod Counted
mod Does
mod Earlier
mod FallRows
mod Fallen
mod FallenRows
mod Falling
pub mod FallingOps
mod FallingWrites
mod FalseLogs
pub mod Found
pub mod Framed
mod GateRows
pub mod Inside
pub mod Labelled
pub mod Layers
pub mod Meeting
mod Mirrors
mod MoveRows
pub mod Ordered
pub mod OwnRecord
pub mod Parts
pub mod Passed
pub mod Passing
mod Placing
mod QuietWays
mod Reach
pub mod Reading
pub mod RecordRows
pub mod ShownRows
pub mod Turns
