mod Sizes
pub mod Rooms
