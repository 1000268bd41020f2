pub mod Backing
pub mod Begins
pub mod Binding
pub mod BlockParts
mod Carrying
pub mod Chained
pub mod Clear
pub mod Completing
pub mod Conflicting
pub mod Counts
pub mod Devices
pub mod Ending
pub mod Ends
pub mod Facts
mod Falling
mod FallsRows
pub mod Fates
pub mod Fitting
pub mod Flipped
pub mod Flipping
pub mod FollowRows
pub mod Forgiving
pub mod Found
pub mod Gates
pub mod Groups
pub mod Holding
pub mod InTurn
mod Inward
pub mod Laid
pub mod Letting
pub mod Moving
pub mod NoneFell
mod Outward
pub mod NoFlips
pub mod OverDevice
pub mod Overwriting
pub mod OwnCells
pub mod Passed
pub mod Planned
pub mod Private
pub mod Puts
pub mod Quietly
pub mod Recording
mod Rows
mod Runs
pub mod Same
pub mod Sending
pub mod Sends
pub mod SentIn
pub mod SentOut
pub mod Served
pub mod Spare
pub mod Spots
mod Standing
pub mod Stepping
mod StillFates
pub mod Switch
pub mod Switching
pub mod Telling
pub mod Together
mod WalksAlike
pub mod WalksBegin
pub mod WalksMoving
pub mod WalksOver
pub mod WalksStanding
pub mod WalksTogether
pub mod Wholes
pub mod Wholly
