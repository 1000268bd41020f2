pub mod Bios
