pub mod Alike
pub mod Spoiling
pub mod Rowing
pub mod Siting
pub mod Sounding
pub mod Coming
pub mod Sweeping
pub mod Ending
