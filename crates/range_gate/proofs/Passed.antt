-- Lemmas of the crates below, for the crates above that stand on this one alone.
pub use Rattle.page_pool.proofs.Celled.{apart-cells, read-cells, scatter-append, wrote-cells}
pub use Rattle.page_pool.proofs.Ranges.{apart-lists, apart-ranges, range-sum}
pub use Rattle.page_pool.proofs.Spreads.{length-range, range_stands}
