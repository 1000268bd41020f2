use Rattle.std.proofs.Common.{◌≡◌, ◌++◌, length, map, drop, ap, sym, ◌∙◌, arith}
use Rattle.std.proofs.lemmas.List.{length-map, take-append-drop}
use Rattle.page_pool.specs.Cells.{cell, flat, scatter}
use Rattle.page_pool.specs.Pages.{Wrote}
use Rattle.page_pool.specs.Places.{range_of}
use Rattle.page_pool.proofs.Celled.{scatter-append, wrote-cells}
use Rattle.page_pool.proofs.Spreads.{length-range}
use Rattle.dix_adapter.specs.Walking.{cells_ahead, tuple_ahead}
use Rattle.dix_adapter.proofs.Ahead.{wrote-whole}
use Rattle.dix_adapter.proofs.walks.Walks.write.Goals as goal

pub write_ahead-requires-clause-stand : goal.write_ahead-requires-clause-stand
write_ahead-requires-clause-stand c = let l : length c.split_at.result.0.now ≡ c.args.self.now.route.size = c.split_at.ensures.front_len in rw l c.requires.block.body

pub write_ahead-requires-clause-once : goal.write_ahead-requires-clause-once
write_ahead-requires-clause-once c = let l : length c.split_at.result.0.now ≡ c.args.self.now.route.size = c.split_at.ensures.front_len in rw l c.requires.once.body

pub write_tuple-requires-clause-there : goal.write_tuple-requires-clause-there
write_tuple-requires-clause-there c =
    let w = wrote-whole c.args.pool.now c.write_ahead.new.self (range_of c.args.self.now.body 0 (length c.split_at.result.0.now)) c.split_at.result.0.now c.requires.block.whole c.write_ahead.ensures.wrote in
    rw w.0 c.requires.block.tuple

pub returns-clause-cells : goal.returns-clause-cells
returns-clause-cells c =
    let n = c.args.self.now.route.size in
    let l : length c.split_at.result.0.now ≡ n = c.split_at.ensures.front_len in
    let q : Wrote c.args.pool.now c.write_ahead.new.self (range_of c.args.self.now.body 0 n) c.split_at.result.0.now = rw l at c.write_ahead.ensures.wrote in
    let d = wrote-cells c.args.pool.now c.write_ahead.new.self (range_of c.args.self.now.body 0 n) c.split_at.result.0.now c.requires.block.whole c.requires.block.body q in
    let m = length-map (range_of c.args.self.now.body 0 n) cell in
    let r = length-range c.args.self.now.body 0 n (let x = c.requires.block.room in omega arith) in
    let v : c.args.frame.now ≡ c.split_at.result.0.now ++ c.split_at.result.1.now = sym (take-append-drop n c.args.frame.now) ∙ ap (λ z. z ++ drop n c.args.frame.now) (sym c.split_at.ensures.front) ∙ ap (λ z. c.split_at.result.0.now ++ z) (sym c.split_at.ensures.back) in
    c.write_tuple.ensures.cells ∙ ap (scatter (tuple_ahead c.args.self.now.tuples) c.split_at.result.1.now) d
    ∙ sym (scatter-append (map cell (range_of c.args.self.now.body 0 n)) (tuple_ahead c.args.self.now.tuples) c.split_at.result.0.now c.split_at.result.1.now (flat c.args.pool.now) (l ∙ sym (m ∙ r)))
    ∙ ap (λ z. scatter (cells_ahead c.args.self.now) z (flat c.args.pool.now)) (sym v)
