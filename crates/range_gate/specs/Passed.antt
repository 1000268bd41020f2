-- Words of the crates below, for the crates above that stand on this one alone.
pub use Rattle.page_pool.specs.Cells.{cell, flat, gather, is_in, joined, scatter, share_a_cell}
pub use Rattle.page_pool.specs.Pages.{AllLieIn, AreWhole, Wrote, bytes_at}
pub use Rattle.page_pool.specs.Places.{Apart, NoneTwice, PageByte, places_in, range_of, total}
pub use Rattle.page_pool.specs.declared.segs.Seg.{Seg}
