pub mod HeadLaws
pub mod Octets
pub mod Passed
pub mod RoomLaws
pub mod State
pub mod UnitLaws
mod Rows
mod UnitLemmas
pub mod FreshBlocks
pub mod FrameLaws
pub mod FewFrames
pub mod HeaderLaws
pub mod KeptLaws
