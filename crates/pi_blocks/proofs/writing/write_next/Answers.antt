use Rattle.std.proofs.Common.{rules, ◌≡◌, ◌++◌, ◌-◌, ◌≤◌, ◌∙◌, List, ℕ, length, take, drop, sym, ap, arith}
use Rattle.std.proofs.lemmas.List.{append_assoc, drop-drop, length-drop, take_all}
use Rattle.std.proofs.Math.Seq.{take-add}
use Rattle.pi_blocks.specs.Parts.{all_parts_mut, before_in, bytes_of_mut, left_in}
use Rattle.pi_blocks.proofs.Written.{halves, same_on, written_is_put}
use Rattle.pi_blocks.proofs.writing.write_next.Goals as goal

pub loop-done-preserved : goal.loop-done-preserved
loop-done-preserved c =
    let h = c.loop-done.invariant in
    let step = c.write_part-done.ensures in
    let done = c.loop-done.done in
    let k = c.write_part-done.result in
    let bytes = c.args.bytes.now in
    let before = before_in bytes_of_mut c.args.parts.now c.args.place.now in
    let left = left_in bytes_of_mut c.args.parts.now c.args.place.now in
    let rest : take (length bytes - done) (drop done bytes) ≡ drop done bytes = take_all (length bytes - done) (drop done bytes) (omega (arith, length-drop done bytes)) in
    record {
      inside = step.inside;
      within = omega (arith, step.written, ap length rest, length-drop done bytes, h.within);
      count = step.count ∙ h.count;
      same = same_on c.args.parts.now c.loop-done.parts c.write_part-done.new.parts h.same step.same;
      left = step.left ∙ (ap (drop k) h.left ∙ drop-drop k done left);
      before = step.before ∙ (ap (λ (x : List ℕ). before_in bytes_of_mut c.loop-done.parts c.loop-done.place ++ take k x) rest ∙ (ap (λ (x : List ℕ). x ++ take k (drop done bytes)) h.before
          ∙ (append_assoc before (take done bytes) (take k (drop done bytes)) ∙ ap (λ (x : List ℕ). before ++ x) (sym (take-add done k bytes)))));
    }

pub returns-clause-written : goal.returns-clause-written
returns-clause-written c at le e =
    let h = c.loop-done.invariant in
    let bytes = c.args.bytes.now in
    let old = c.args.parts.now in
    let new = c.loop-done.parts in
    let before = before_in bytes_of_mut old c.args.place.now in
    let left = left_in bytes_of_mut old c.args.place.now in
    let over : length bytes ≤ c.loop-done.done = search rules in
    let all : c.loop-done.done ≡ length bytes = omega (arith, over, h.within) in
    written_is_put at before left (before_in bytes_of_mut new c.loop-done.place) (left_in bytes_of_mut new c.loop-done.place) (all_parts_mut old) (all_parts_mut new) bytes
    (halves bytes_of_mut old c.args.place.now c.requires.inside) (halves bytes_of_mut new c.loop-done.place h.inside) le e
    (h.before ∙ ap (λ (x : List ℕ). before ++ x) (take_all c.loop-done.done bytes over)) (h.left ∙ ap (λ n. drop n left) all)
