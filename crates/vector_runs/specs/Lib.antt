pub mod Answered
pub mod Done
pub mod ListText
pub mod Played
pub mod Ranges
pub mod RecordText
pub mod Taken
pub mod Unplayed
