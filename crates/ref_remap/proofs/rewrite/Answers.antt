use Rattle.std.proofs.Common.{◌≡◌, ◌+◌, ◌*◌, ◌∙◌, ap, sym, length, arith, rules}
use Rattle.page_pool.specs.Cuts.{past}
use Rattle.page_pool.specs.Places.{places_in, range_of}
use Rattle.page_pool.specs.Pages.{Wrote}
use Rattle.page_pool.proofs.Placing.{in_pages, segments_stand}
use Rattle.page_pool.proofs.Spreads.{ahead-stands, ahead-once, room-ahead}
use Rattle.pi_tuple.specs.Tuples.{tuple_in, tuple_bytes}
use Rattle.ref_remap.specs.Remapped.{remapped}
use Rattle.ref_remap.proofs.Rewrites.{rewrites_none, rewrites_more}
use Rattle.ref_remap.proofs.rewrite.Goals as goal

pub walk_tuples-reader-requires-clause-lie : goal.walk_tuples-reader-requires-clause-lie
walk_tuples-reader-requires-clause-lie c = in_pages (length c.args.pool.now) (places_in c.args.pi.now.tuples) (segments_stand c.args.pool.now c.args.pi.now.tuples c.requires.lie)

pub walk_tuples-writer-requires-clause-lie : goal.walk_tuples-writer-requires-clause-lie
walk_tuples-writer-requires-clause-lie c = in_pages (length c.args.pool.now) (places_in c.args.pi.now.tuples) (segments_stand c.args.pool.now c.args.pi.now.tuples c.requires.lie)

pub loop-i-init : goal.loop-i-init
loop-i-init c =
    rewrites_none c.args.pool.now c.args.pi.now.tuples c.args.ty c.args.k c.args.from c.args.to c.walk_tuples-reader.result c.walk_tuples-writer.result c.walk_tuples-reader.ensures.ahead c.walk_tuples-writer.ensures.ahead

pub read_ahead-requires-clause-stand : goal.read_ahead-requires-clause-stand
read_ahead-requires-clause-stand c =
    ahead-stands c.args.pool.now c.loop-i.pool c.args.pi.now.tuples c.loop-i.reader (8 * (c.args.k + c.loop-i.i)) 8 c.requires.lie c.loop-i.invariant.done.wrote.others.pages c.loop-i.invariant.reader_is

pub read_ahead-requires-clause-room : goal.read_ahead-requires-clause-room
read_ahead-requires-clause-room c =
    let long = c.requires.payload.long in
    room-ahead c.args.pi.now.tuples c.loop-i.reader (8 * (c.args.k + c.loop-i.i)) 8 c.loop-i.invariant.reader_is (omega arith)

pub write_ahead-requires-clause-stand : goal.write_ahead-requires-clause-stand
write_ahead-requires-clause-stand c =
    ahead-stands c.args.pool.now c.loop-i.pool c.args.pi.now.tuples c.loop-i.writer (8 * (c.args.k + c.loop-i.i)) (length c.to_bytes.result) c.requires.lie c.loop-i.invariant.done.wrote.others.pages c.loop-i.invariant.writer_is

pub write_ahead-requires-clause-once : goal.write_ahead-requires-clause-once
write_ahead-requires-clause-once c = ahead-once c.args.pi.now.tuples c.loop-i.writer (8 * (c.args.k + c.loop-i.i)) (length c.to_bytes.result) c.requires.once c.loop-i.invariant.writer_is

pub write_ahead-requires-clause-room : goal.write_ahead-requires-clause-room
write_ahead-requires-clause-room c =
    let eight : length c.to_bytes.result ≡ 8 = search rules in
    let long = c.requires.payload.long in
    room-ahead c.args.pi.now.tuples c.loop-i.writer (8 * (c.args.k + c.loop-i.i)) (length c.to_bytes.result) c.loop-i.invariant.writer_is (omega arith)

pub loop-i-preserved : goal.loop-i-preserved
loop-i-preserved c =
    let eight : length c.to_bytes.result ≡ 8 = search rules in
    let long : length c.read_ahead.new.into ≡ 8 = search rules in
    let bytes = c.to_bytes.ensures.bytes in
    let wrote : Wrote c.loop-i.pool c.write_ahead.new.self (range_of c.loop-i.writer 0 8) (tuple_bytes c.remap-tuple.result) = rw (← eight, ← bytes) c.write_ahead.ensures.wrote in
    let spelt : tuple_bytes (tuple_in c.read_ahead.new.into) ≡ c.read_ahead.new.into = ap tuple_bytes (sym c.from_bytes.ensures.value) ∙ c.from_bytes.ensures.back in
    rewrites_more c.args.pool.now c.loop-i.pool c.write_ahead.new.self c.args.pi.now.tuples c.args.ty c.args.k c.args.from c.args.to c.loop-i.i c.loop-i.reader c.read_ahead.new.walk c.loop-i.writer c.write_ahead.new.walk
    c.read_ahead.new.into c.remap-tuple.result c.requires.once c.loop-i.invariant c.read_ahead.ensures.bytes long spelt (c.remap-tuple.ensures ∙ ap (remapped c.args.ty (c.args.from + c.loop-i.i) (c.args.to + c.loop-i.i)) c.from_bytes.ensures.value)
    (ap tuple_in (sym bytes) ∙ c.to_bytes.ensures.back) wrote c.read_ahead.ensures.ahead (c.write_ahead.ensures.ahead ∙ ap (λ n. past n c.loop-i.writer) eight)
