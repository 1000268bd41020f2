pub mod Cut
pub mod Got
pub mod Passed
pub mod Told
