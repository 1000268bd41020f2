mod Differing
mod Listing
mod Showing
pub mod Sights
pub mod Frames
pub mod ShowShowing
pub mod Comparing
pub mod Back
pub mod Dumping
pub mod Filling
pub mod Importing
pub mod Keeping
pub mod Making
pub mod Putting
pub mod Storing
