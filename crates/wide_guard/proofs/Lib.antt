mod Rows
mod Linear
pub mod Bridge
mod Bursts
