use Rattle.std.proofs.Common.{length, ap, sym, ◌∙◌, Some}
use Rattle.page_pool.specs.Cells.{flat, scatter}
use Rattle.page_pool.specs.Pages.{Wrote}
use Rattle.page_pool.specs.Places.{range_of}
use Rattle.page_pool.proofs.Celled.{wrote-cells}
use Rattle.dix_adapter.specs.Walking.{HasTuple, tuple_ahead}
use Rattle.dix_adapter.proofs.walks.write_tuple.Goals as goal

pub returns-in-Some-clause-cells : goal.returns-in-Some-clause-cells
returns-in-Some-clause-cells c =
    let h : HasTuple (length c.args.pool.now) (Some c.in-Some.tuples) = rw c.in-Some.is at c.requires.there in
    let w : Wrote c.args.pool.now c.write_ahead.new.self (range_of c.in-Some.tuples 0 8) c.args.bytes.now = rw c.requires.long at c.write_ahead.ensures.wrote in
    wrote-cells c.args.pool.now c.write_ahead.new.self (range_of c.in-Some.tuples 0 8) c.args.bytes.now c.requires.whole h.0 w
    ∙ ap (λ t. scatter (tuple_ahead t) c.args.bytes.now (flat c.args.pool.now)) (sym c.in-Some.is)
