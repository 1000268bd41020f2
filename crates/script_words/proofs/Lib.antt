pub mod Cutting
mod DecimalLemmas
