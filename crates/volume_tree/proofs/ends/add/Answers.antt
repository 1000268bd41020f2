use Rattle.std.proofs.Common.{◌≡◌, sym, ap, ◌∙◌, arith, length}
use Rattle.std.specs.List.{position_or_len}
use Rattle.std.proofs.lemmas.Bool.Decides.{nat_tests}
use Rattle.volume_tree.specs.Tracks.{has_at, is_from}
use Rattle.volume_tree.proofs.Putting.{joins, stays, too_many}
use Rattle.volume_tree.proofs.ends.add.Goals as goal

pub returns-then-has_at-clause-put : goal.returns-then-has_at-clause-put
returns-then-has_at-clause-put c =
    stays c.args.end c.args.ends.now.items c.place_for-place.result (c.place_for-place.ensures.value ∙ ap (position_or_len (is_from c.args.end)) c.as_slice.ensures.value)
    (ap (λ xs. has_at xs c.place_for-place.result c.args.end) (sym c.as_slice-2.ensures.value) ∙ sym c.has_at.ensures ∙ c.if-has_at.true)

pub returns-then-is_full-clause-full : goal.returns-then-is_full-clause-full
returns-then-is_full-clause-full c u =
    let full : length c.args.ends.now.items ≡ 16 = grind (arith, nat_tests, sym c.is_full.ensures.value ∙ c.if-is_full.true) in
    too_many c.args.end c.args.ends.now.items c.place_for-place.result (c.place_for-place.ensures.value ∙ ap (position_or_len (is_from c.args.end)) c.as_slice.ensures.value)
    (ap (λ xs. has_at xs c.place_for-place.result c.args.end) (sym c.as_slice-2.ensures.value) ∙ sym c.has_at.ensures ∙ c.if-has_at.false) full

pub returns-clause-put : goal.returns-clause-put
returns-clause-put c =
    joins c.args.end c.args.ends.now.items c.insert.new.self.items c.place_for-place.result (c.place_for-place.ensures.value ∙ ap (position_or_len (is_from c.args.end)) c.as_slice.ensures.value)
    (ap (λ xs. has_at xs c.place_for-place.result c.args.end) (sym c.as_slice-2.ensures.value) ∙ sym c.has_at.ensures ∙ c.if-has_at.false) c.insert.ensures.items
