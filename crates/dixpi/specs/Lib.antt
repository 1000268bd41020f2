pub mod Faults
pub mod Layers
pub mod Nvme
pub mod Texts
