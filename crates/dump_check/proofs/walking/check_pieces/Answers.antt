use Rattle.std.proofs.Common.{ℕ, ◌≡◌, ◌*◌, ◌/◌, ◌++◌, ◌≤◌, List, take, drop, ap, refl, sym, subst, ◌∙◌, arith}
use Rattle.dix_base.specs.Told.{Took}
use Rattle.dix_base.proofs.Taking.{took_more}
use Rattle.dump_check.specs.declared.walking.TheConstants.{MOST_BLOCKS}
use Rattle.dump_check.specs.declared.tally.DumpTally.{DumpTally}
use Rattle.dump_check.specs.Forms.{stride_of}
use Rattle.dump_check.specs.Lines.{tally_of}
use Rattle.dix_base.proofs.Counts.{rose_later}
use Rattle.dump_check.proofs.Endings.{begun_all, some_bytes}
use Rattle.dump_check.proofs.Passes.{bad_whole, broken_off, is_full, not_full, parts_of, tally_whole, took_parts, walked_on, walked_out}
use Rattle.dump_check.proofs.walking.check_pieces.Goals as goal

pub returns-in-Err-clause-ends : goal.returns-in-Err-clause-ends
returns-in-Err-clause-ends g c =
    let inv = c.loop-tally.invariant in
    let w = inv.walked in
    let b = c.in-Err.ensures.broken in
    let some = some_bytes c.args.dump.form c.requires.fit in (
      rose_later _ _ _ (omega (arith, inv.calm)) c.in-Err.ensures.cause,
      record { bytes = w.0; more = b.0; took = took_more w.0 b.0 _ _ _ w.1 b.1; written = bad_whole c.args.dump c.loop-tally.tally w.0 _ _ some w.2 },
      inv.sinks,
    )

pub returns-in-Err-check_blocks-clause-ends : goal.returns-in-Err-check_blocks-clause-ends
returns-in-Err-check_blocks-clause-ends g c =
    let d = c.args.dump in
    let inv = c.loop-tally.invariant in
    let w = inv.walked in
    let some = some_bytes d.form c.requires.fit in
    let each = c.stride-each.result in
    let got = c.in-Ok.got in
    let n = got / each in
    let into = c.fill.new.into in
    let parts = parts_of (stride_of d.form) got n each into some c.stride-each.ensures refl (omega (arith, c.in-Ok.ensures.bound, c.fill.ensures.long)) in
    let x = c.in-Err-check_blocks.ensures.wrote in (
      rose_later _ _ _ (omega (arith, inv.sinks)) x.cause,
      begun_all d ((w.0 ++ take (n * each) into) ++ drop (n * each) (take got into)) _ _ _ _ some (took_parts (stride_of d.form) got n each w.0 into _ _ _ parts w.1 c.in-Ok.ensures.taken)
          (broken_off d c.loop-tally.tally n w.0 (take (n * each) into) (drop (n * each) (take got into)) _ _ _ w.2 parts.long parts.less x.part),
    )

pub returns-then-whole-most-clause-ends : goal.returns-then-whole-most-clause-ends
returns-then-whole-most-clause-ends g c =
    let d = c.args.dump in
    let inv = c.loop-tally.invariant in
    let w = inv.walked in
    let some = some_bytes d.form c.requires.fit in
    let each = c.stride-each.result in
    let got = c.in-Ok.got in
    let n = got / each in
    let into = c.fill.new.into in
    let parts = parts_of (stride_of d.form) got n each into some c.stride-each.ensures refl (omega (arith, c.in-Ok.ensures.bound, c.fill.ensures.long)) in
    let x = c.in-Ok-check_blocks.ensures in
    let less = not_full (stride_of d.form) got n each c.args.most _ some c.stride-each.ensures refl c.if-whole-most.true (inv.room ∙ c.requires.room) in (
      walked_out d _ (w.0 ++ take (n * each) into) (drop (n * each) (take got into)) _ _ _ _
          (walked_on d c.loop-tally.tally c.in-Ok-check_blocks.tally n w.0 (take (n * each) into) _ _ _ w.2 parts.long x.more x.value x.wrote.whole) parts.less parts.rest
          (took_parts (stride_of d.form) got n each w.0 into _ _ _ parts w.1 c.in-Ok.ensures.taken) (c.in-Ok.ensures.end less),
      c.in-Ok.ensures.calm ∙ inv.calm,
      x.wrote.calm ∙ inv.sinks,
    )

pub loop-tally-preserved : goal.loop-tally-preserved
loop-tally-preserved g c =
    let d = c.args.dump in
    let inv = c.loop-tally.invariant in
    let w = inv.walked in
    let some = some_bytes d.form c.requires.fit in
    let each = c.stride-each.result in
    let got = c.in-Ok.got in
    let n = got / each in
    let into = c.fill.new.into in
    let parts = parts_of (stride_of d.form) got n each into some c.stride-each.ensures refl (omega (arith, c.in-Ok.ensures.bound, c.fill.ensures.long)) in
    let x = c.in-Ok-check_blocks.ensures in
    let full = is_full (stride_of d.form) got n each c.args.most _ c.stride-each.ensures refl (omega (arith, c.if-whole-most.false)) (inv.room ∙ c.requires.room) c.in-Ok.ensures.bound in
    let same : take got into ≡ take (n * each) into = ap (λ k. take k into) (sym full) in
    record {
      room = c.fill.ensures.long ∙ inv.room;
      walked = (
        w.0 ++ take (n * each) into,
        subst (λ (y : List ℕ). Took (w.0 ++ y) (g.S.Source.left c.args.source.now) (g.S.Source.left c.fill.new.source)) same (took_more w.0 (take got into) _ _ _ w.1 c.in-Ok.ensures.taken),
        walked_on d c.loop-tally.tally c.in-Ok-check_blocks.tally n w.0 (take (n * each) into) _ _ _ w.2 parts.long x.more x.value x.wrote.whole,
      );
      tally = x.tally;
      calm = c.in-Ok.ensures.calm ∙ inv.calm;
      sinks = x.wrote.calm ∙ inv.sinks;
    }

pub returns-clause-ends : goal.returns-clause-ends
returns-clause-ends g c =
    let d = c.args.dump in
    let inv = c.loop-tally.invariant in
    let w = inv.walked in
    let some = some_bytes d.form c.requires.fit in
    let t = tally_whole d c.loop-tally.tally w.0 _ _ some w.2 in
    let many : MOST_BLOCKS ≤ (tally_of d.form w.0).blocks = subst (λ (y : DumpTally). MOST_BLOCKS ≤ y.blocks) t (omega (arith, c.loop-tally-test.false)) in
    (w.0, w.1, many, bad_whole d c.loop-tally.tally w.0 _ _ some w.2, inv.calm, inv.sinks)
