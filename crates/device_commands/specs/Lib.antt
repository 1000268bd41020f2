pub mod Alike
pub mod Forms
pub mod Lengths
pub mod Ops
pub mod Told
