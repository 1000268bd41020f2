-- The plan of a stack is that of its script.
use Rattle.std.proofs.Common.{◌≡◌, inl, inr, ◌<◌, ℕ, zero, suc, ◌+◌, Bool, true, false, ◌&&◌, eqb, List, [], ◌∷◌, length, map, get_or, None, refl, sym, ap, ◌∙◌, arith, ⊎_elim}
use Rattle.std.specs.Prelude.{pos}
use Rattle.std.specs.List.{list_any}
use Rattle.std.proofs.lemmas.Bool.{and_right, cases_Bool, or_parts, true_from_ne_false}
use Rattle.std.proofs.lemmas.List.{length-map}
use Rattle.fault_schedule.specs.Altered.{is_same, shift_by, shift_of}
use Rattle.fault_schedule.specs.declared.fault.Crossing.{Crossing}
use Rattle.fault_schedule.specs.declared.fault.Crossing.TheVariants.{AdapterToTarget, MediumToTarget, TargetToMedium}
use Rattle.fault_schedule.specs.declared.fault.FaultKind.{FaultKind}
use Rattle.fault_schedule.specs.declared.fault.FaultKind.TheVariants.{Flip, Shift, Keep, Fail}
use Rattle.fault_schedule.specs.declared.fault.FaultLine.{FaultLine}
use Rattle.bio_core.specs.declared.request.Io.{Io}
use Rattle.merge_queue.specs.declared.limits.Limits.{Limits}
use Rattle.merge_queue.specs.Groups.{numbers}
use Rattle.merge_queue.proofs.Linking.{one-chain, length-numbers}
use Rattle.range_gate.specs.Conflicts.{Conflict}
use Rattle.range_gate.proofs.Layouts.{clash_means}
use Rattle.volume_table.specs.Tables.{Table}
use Rattle.stack_ops.specs.declared.op.Op.{Op}
use Rattle.stack_ops.specs.declared.op.Op.TheVariants.{Fetch, FetchPi, Fill, Overwrite, Put, Seal, Show, Wait, Write, WritePi}
use Rattle.stack_ops.specs.Footprints.{footprint, is_alone}
use Rattle.stack_walk_laws.specs.Passed.{OpsConflict, is_shifted, Setting}
use Rattle.stack_walk_laws.specs.Ground.{IsPlanOf}
use Rattle.stack_walk_laws.specs.Requests.{requests_from}
use Rattle.stack_walk_laws.specs.Sheets.{do_clash, io_at, layout_of, no_print, op_in, plan_of, prints_of, request_in}
use Rattle.stack_walk_laws.specs.Shifts.{shifted_by, shifts}
use Rattle.stack_walk_laws.proofs.WalksBegin.{length-requests}
use Rattle.stack_walk_laws.proofs.Facts.{request-at}
use Rattle.stack_walk_laws.proofs.Conflicting.{own_layout}
use Rattle.stack_core.proofs.Listing.{prints-at}
use Rattle.stack_core.proofs.AtUnits.{io_count}

-- ---- which ops are shifted

unmoved : (line : FaultLine) (at : Crossing) (op : ℕ) → shifts op line ≡ false → shift_by line at op ≡ None
unmoved line at op h = by (eqb line.op op) refl line.kind refl
  where
    by : (b : Bool) → eqb line.op op ≡ b → (kind : FaultKind) → line.kind ≡ kind → shift_by line at op ≡ None
    by false e kind k = let x = and_right (is_same line.at at) (eqb line.op op) e in rw x refl
    by true e (Flip off bytes) k = ⊎_elim (λ (x : (is_same line.at at && eqb line.op op) ≡ true). rw (x, k) refl) (λ (x : (is_same line.at at && eqb line.op op) ≡ false). rw x refl) (cases_Bool (is_same line.at at && eqb line.op op))
    by true e (Keep bytes) k = ⊎_elim (λ (x : (is_same line.at at && eqb line.op op) ≡ true). rw (x, k) refl) (λ (x : (is_same line.at at && eqb line.op op) ≡ false). rw x refl) (cases_Bool (is_same line.at at && eqb line.op op))
    by true e Fail k = ⊎_elim (λ (x : (is_same line.at at && eqb line.op op) ≡ true). rw (x, k) refl) (λ (x : (is_same line.at at && eqb line.op op) ≡ false). rw x refl) (cases_Bool (is_same line.at at && eqb line.op op))
    by true e (Shift by') k = let z : true ≡ false = sym (rw (e, k) refl) ∙ h in cc

pub not_shifted : (lines : List FaultLine) (at : Crossing) (op : ℕ) → list_any (shifts op) lines ≡ false → shift_of lines at op ≡ pos 0
not_shifted [] at op h = refl
not_shifted (line ∷ lines) at op h =
    let p = or_parts (shifts op line) (list_any (shifts op) lines) h in
    rw (unmoved line at op p.0) (not_shifted lines at op p.1)

map_at : {A B : Type 0} (f : A → B) (xs : List A) (i : ℕ) (d : A) (e : B) → i < length xs → get_or (map f xs) i e ≡ f (get_or xs i d)
map_at f [] i d e h = absurd (omega arith)
map_at f (x ∷ xs) zero d e h = refl
map_at f (x ∷ xs) (suc i) d e h = map_at f xs i d e (omega arith)

shifted_at : (faults : List FaultLine) (n i : ℕ) → i < n → get_or (shifted_by faults n) i false ≡ list_any (shifts (i + 1)) faults
shifted_at faults n i h =
    let l = length-numbers 0 n in
    let e = one-chain 0 n i h in
    map_at (λ i. list_any (shifts (i + 1)) faults) (numbers 0 n) i 0 false (omega arith) ∙ ap (λ x. list_any (shifts (x + 1)) faults) (e ∙ (let z : 0 + i ≡ i = omega arith in z))

is_marked : (m : Setting) (n i : ℕ) → i < n → is_shifted m (suc i) ≡ true → get_or (shifted_by m.site.faults n) i false ≡ true
is_marked m n i h e =
    true_from_ne_false (get_or (shifted_by m.site.faults n) i false)
    (λ (f : get_or (shifted_by m.site.faults n) i false ≡ false).
    let one : i + 1 ≡ suc i = omega arith in
    let none : list_any (shifts (suc i)) m.site.faults ≡ false = ap (λ x. list_any (shifts x) m.site.faults) (sym one) ∙ (sym (shifted_at m.site.faults n i h) ∙ f) in
    let a = not_shifted m.site.faults AdapterToTarget (suc i) none in
    let b = not_shifted m.site.faults MediumToTarget (suc i) none in
    let c = not_shifted m.site.faults TargetToMedium (suc i) none in
    let still : is_shifted m (suc i) ≡ false = rw (a, b, c) refl in
    let z : true ≡ false = sym e ∙ still in
    cc)

-- a footprint of a shifted op conflicts with all, so one that isn't shifted conflicts with no more
alone_more : (op : Op) (b c : Bool) → (b ≡ true → c ≡ true) → is_alone op b ≡ true → is_alone op c ≡ true
alone_more (Fill seg byte) b c h e = e
alone_more (Put page off bytes) b c h e = e
alone_more (Show seg) b c h e = e
alone_more (Seal n body tuples app rtag) b c h e = e
alone_more (Write v n body app) b c h e = h e
alone_more (Fetch v n body) b c h e = h e
alone_more (WritePi v n body tuples) b c h e = h e
alone_more (FetchPi v n body tuples) b c h e = h e
alone_more (Overwrite dev lba change) b c h e = e
alone_more Wait b c h e = e

more_conflict : (op other : Op) (b c d e : Bool) → (b ≡ true → c ≡ true) → (d ≡ true → e ≡ true) → Conflict (footprint op b) (footprint other d) → Conflict (footprint op c) (footprint other e)
more_conflict op other b c d e f g (inl x) = inl (alone_more op b c f x)
more_conflict op other b c d e f g (inr (inl x)) = inr (inl (alone_more other d e g x))
more_conflict op other b c d e f g (inr (inr x)) = inr (inr x)

pub plan_is : (m : Setting) (dix : Bool) (page : ℕ) (ops : List Op) (shifted : List Bool) (ios : List Io) (table : Table) (limits : Limits) (devices : ℕ) → ios ≡ requests_from dix page ops → shifted ≡ shifted_by m.site.faults (length ops) →
    IsPlanOf (plan_of ops shifted ios table limits devices) m ops
plan_is m dix page ops shifted ios table limits devices a b = record {
  many = length-map ios request_in ∙ (ap length a ∙ length-requests dix page ops);
  count = λ i. ap (λ r. r.count) (request-at ios i) ∙ (ap (λ x. (io_at x i).count) a ∙ io_count dix page ops i);
  apart = apart;
}
  where
    apart : (j i : ℕ) → j < i → i < length ops → do_clash (get_or (prints_of ops shifted) j no_print) (get_or (prints_of ops shifted) i no_print) ≡ false → OpsConflict m (suc j) (op_in ops j) (suc i) (op_in ops i) → ⊥
    apart j i h l e c =
        let n : length shifted ≡ length ops = ap length b ∙ (length-map (numbers 0 (length ops)) _ ∙ length-numbers 0 (length ops)) in
        let p = prints-at ops shifted j no_print n (omega arith) in
        let q = prints-at ops shifted i no_print n l in
        let f = footprint (op_in ops j) (get_or shifted j false) in
        let g = footprint (op_in ops i) (get_or shifted i false) in
        let same : do_clash f g ≡ false = sym (ap (λ x. do_clash x (get_or (prints_of ops shifted) i no_print)) p ∙ ap (do_clash f) q) ∙ e in
        let more = more_conflict (op_in ops j) (op_in ops i) (is_shifted m (suc j)) (get_or shifted j false) (is_shifted m (suc i)) (get_or shifted i false)
        (λ (t : is_shifted m (suc j) ≡ true). ap (λ x. get_or x j false) b ∙ is_marked m (length ops) j (omega arith) t)
        (λ (t : is_shifted m (suc i) ≡ true). ap (λ x. get_or x i false) b ∙ is_marked m (length ops) i l t)
        c in
        let yes = (clash_means f g (layout_of f) (layout_of g) (own_layout f) (own_layout g)).1 more in
        let z : true ≡ false = sym yes ∙ same in
        cc
