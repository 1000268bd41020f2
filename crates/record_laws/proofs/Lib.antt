pub mod Quiet
pub mod Exchange
pub mod Going
