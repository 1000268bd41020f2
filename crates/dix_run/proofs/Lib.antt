mod Carrying
mod Endings
mod Layouts
mod Opening
pub mod Passed
mod ScrubLines
mod WordLemmas
