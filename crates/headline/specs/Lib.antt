pub mod Words
pub mod Headline
pub mod Fresh
