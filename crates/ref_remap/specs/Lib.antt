pub mod Remapped
