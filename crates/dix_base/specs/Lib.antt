pub mod Forms
pub mod Stores
pub mod Told
pub mod Reading
