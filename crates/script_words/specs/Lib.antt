pub mod Cuts
pub mod Decimals
pub mod Numbers
pub mod Hexes
pub mod Places
