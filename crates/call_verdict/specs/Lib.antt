pub mod Statuses
pub mod Verdicts
pub mod Units
pub mod Words
