use Rattle.std.proofs.Common.{◌≡◌, ◌*◌, ◌/◌, ◌∙◌, ap, sym, length, arith, rules}
use Rattle.page_pool.specs.Cuts.{past}
use Rattle.page_pool.specs.Places.{places_in, range_of}
use Rattle.page_pool.specs.Pages.{Wrote}
use Rattle.page_pool.proofs.Placing.{in_pages, segments_stand}
use Rattle.page_pool.proofs.Spreads.{ahead-stands, ahead-once, room-ahead}
use Rattle.pi_tuple.specs.Tuples.{tuple_in, tuple_bytes}
use Rattle.integrity_payload.proofs.Fills.{block_fits, fills_none, fills_more}
use Rattle.integrity_payload.proofs.payload.Payload.generate.Goals as goal

pub walk-blocks-requires : goal.walk-blocks-requires
walk-blocks-requires c = in_pages (length c.args.pool.now) (places_in c.args.body.now) (segments_stand c.args.pool.now c.args.body.now c.requires.body)

pub walk_tuples-tuples-requires-clause-lie : goal.walk_tuples-tuples-requires-clause-lie
walk_tuples-tuples-requires-clause-lie c = in_pages (length c.args.pool.now) (places_in c.args.self.now.tuples) (segments_stand c.args.pool.now c.args.self.now.tuples c.requires.lie)

pub loop-k-init : goal.loop-k-init
loop-k-init c =
    fills_none c.args.pool.now c.args.body.now c.args.self.now.tuples (c.total.result / c.args.self.now.count) c.args.kind c.args.ty c.args.self.now.seed c.args.self.now.app c.walk-blocks.result c.walk_tuples-tuples.result
    c.walk-blocks.ensures.ahead c.walk_tuples-tuples.ensures.ahead

pub next_guard-guard-requires-clause-stand : goal.next_guard-guard-requires-clause-stand
next_guard-guard-requires-clause-stand c =
    ahead-stands c.args.pool.now c.loop-k.pool c.args.body.now c.loop-k.blocks (c.loop-k.k * (c.total.result / c.args.self.now.count)) (c.total.result / c.args.self.now.count) c.requires.body c.loop-k.invariant.wrote.others.pages c.loop-k.invariant.blocks_are

pub next_guard-guard-requires-clause-room : goal.next_guard-guard-requires-clause-room
next_guard-guard-requires-clause-room c =
    let fits = block_fits c.total.result c.args.self.now.count c.loop-k.k c.loop-k-test.true in
    let all = c.total.ensures in
    room-ahead c.args.body.now c.loop-k.blocks (c.loop-k.k * (c.total.result / c.args.self.now.count)) (c.total.result / c.args.self.now.count) c.loop-k.invariant.blocks_are (rw (← all) fits)

pub write_ahead-requires-clause-stand : goal.write_ahead-requires-clause-stand
write_ahead-requires-clause-stand c =
    ahead-stands c.args.pool.now c.loop-k.pool c.args.self.now.tuples c.loop-k.tuples (8 * c.loop-k.k) (length c.to_bytes.result) c.requires.lie c.loop-k.invariant.wrote.others.pages c.loop-k.invariant.tuples_are

pub write_ahead-requires-clause-once : goal.write_ahead-requires-clause-once
write_ahead-requires-clause-once c = ahead-once c.args.self.now.tuples c.loop-k.tuples (8 * c.loop-k.k) (length c.to_bytes.result) c.requires.once c.loop-k.invariant.tuples_are

pub write_ahead-requires-clause-room : goal.write_ahead-requires-clause-room
write_ahead-requires-clause-room c =
    let eight : length c.to_bytes.result ≡ 8 = search rules in
    let long = c.requires.payload.long in
    room-ahead c.args.self.now.tuples c.loop-k.tuples (8 * c.loop-k.k) (length c.to_bytes.result) c.loop-k.invariant.tuples_are (omega arith)

pub loop-k-preserved : goal.loop-k-preserved
loop-k-preserved c =
    let eight : length c.to_bytes.result ≡ 8 = search rules in
    let bytes = c.to_bytes.ensures.bytes in
    let wrote : Wrote c.loop-k.pool c.write_ahead.new.self (range_of c.loop-k.tuples 0 8) (tuple_bytes c.make-tuple.result) = rw (← eight, ← bytes) c.write_ahead.ensures.wrote in
    fills_more c.args.pool.now c.loop-k.pool c.write_ahead.new.self c.args.body.now c.args.self.now.tuples (c.total.result / c.args.self.now.count) c.args.kind c.args.ty c.args.self.now.seed c.args.self.now.app c.loop-k.k
    c.loop-k.blocks c.next_guard-guard.new.walk c.loop-k.tuples c.write_ahead.new.walk c.make-tuple.result c.requires.once c.requires.apart c.loop-k.invariant
    (c.make-tuple.ensures ∙ cc (c.next_guard-guard.ensures.guard, c.own_tag.ensures)) (ap tuple_in (sym bytes) ∙ c.to_bytes.ensures.back) wrote c.next_guard-guard.ensures.ahead (c.write_ahead.ensures.ahead ∙ ap (λ n. past n c.loop-k.tuples) eight)
