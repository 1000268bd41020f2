mod Bounds
mod Lines
mod Opening
mod Opens
mod RecordLines
mod Steps
mod Wanting
pub mod Whole
pub mod Heads
mod Coming
