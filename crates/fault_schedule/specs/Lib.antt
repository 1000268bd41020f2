pub mod Altered
pub mod AnyOrder
pub mod Spans
