use Rattle.std.proofs.Common.{◌++◌, ◌∙◌, List, ℕ, length, subst, take, arith}
use Rattle.pi_guard.specs.Stands.{Stands}
use Rattle.pi_blocks.specs.Parts.{left_in}
use Rattle.pi_blocks.proofs.Feeds.{enough_on, left_on, read_on}
use Rattle.pi_blocks.proofs.parts.feed.Goals as goal

pub loop-wanted-preserved : goal.loop-wanted-preserved
loop-wanted-preserved g c =
    let bytes = c.take_part-bytes.result.now in
    let took = c.take_part-bytes.ensures.taken in
    let h = c.loop-wanted.invariant in
    let wanted = c.loop-wanted.wanted in
    let left = left_in g.P.Readable.read c.args.parts.now c.loop-wanted.place in
    let next = left_in g.P.Readable.read c.args.parts.now c.take_part-bytes.new.place in
    let all = left_in g.P.Readable.read c.args.parts.now c.args.place.now in
    let more : (b : List ℕ) → Stands c.loop-wanted.run b → Stands c.update.new.self (b ++ take (length bytes) left) =
    λ b s. subst (λ (x : List ℕ). Stands c.update.new.self (b ++ x)) c.take_part-bytes.ensures.bytes (c.update.ensures.more b s) in
    record {
      inside = c.take_part-bytes.ensures.inside;
      within = omega arith;
      enough = enough_on wanted (length bytes) left next took h.enough c.take_part-bytes.ensures.left;
      left = left_on c.args.count wanted (length bytes) all left next h.within took h.left c.take_part-bytes.ensures.left;
      kind = c.update.ensures.kind ∙ h.kind;
      read = read_on c.args.count wanted (length bytes) all left c.args.run.now c.loop-wanted.run c.update.new.self h.within took h.left h.read more;
    }
