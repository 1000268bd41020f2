pub mod Refusing
pub mod Completing
pub mod Naming
pub mod Staging
pub mod Sparing
pub mod Mirroring
