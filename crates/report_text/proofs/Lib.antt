pub mod Flow
pub mod Lines
pub mod Written
