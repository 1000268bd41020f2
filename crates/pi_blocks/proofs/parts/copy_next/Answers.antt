use Rattle.std.proofs.Common.{rules, ◌≡◌, ◌+◌, ◌≤◌, ◌∙◌, length, drop, ap, arith}
use Rattle.std.proofs.lemmas.List.{drop-drop}
use Rattle.pi_blocks.specs.Parts.{left_in}
use Rattle.pi_blocks.proofs.Copies.{copied_on, part-length}
use Rattle.pi_blocks.proofs.parts.copy_next.Goals as goal

pub loop-done-preserved : goal.loop-done-preserved
loop-done-preserved g c =
    let h = c.loop-done.invariant in
    let done = c.loop-done.done in
    let k = length c.take_part-bytes.result.now in
    let left = left_in g.P.Readable.read c.args.parts.now c.loop-done.place in
    let all = left_in g.P.Readable.read c.args.parts.now c.args.place.now in
    let out = c.loop-done.out in
    let piece = c.copy_from_slice.new.self in
    let same : piece ≡ c.take_part-bytes.result.now = search rules in
    let fits : done + k ≤ length out = omega (arith, c.take_part-bytes.ensures.taken, h.within) in
    let long = part-length done k out piece fits (ap length same) in
    record {
      inside = c.take_part-bytes.ensures.inside;
      long = long ∙ h.long;
      within = omega (arith, long, fits);
      left = c.take_part-bytes.ensures.left ∙ (ap (drop k) h.left ∙ drop-drop k done all);
      copied = copied_on done k out piece all left fits (ap length same) (same ∙ c.take_part-bytes.ensures.bytes) h.left h.copied;
    }
