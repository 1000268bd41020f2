pub mod PlaceRows
pub mod Stretches
pub mod Walks
