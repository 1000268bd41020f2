pub mod Ahead
pub mod Cells
pub mod Cuts
pub mod Joining
pub mod Lending
pub mod Pages
pub mod Places
pub mod Walking
