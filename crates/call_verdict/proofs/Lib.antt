pub mod Verdicts
pub mod WordLemmas
