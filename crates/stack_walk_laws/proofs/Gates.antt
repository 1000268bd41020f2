-- The gate for the ops keeps apart those that conflict in the plan.
use Rattle.std.proofs.Common.{◌≡◌, ℕ, suc, Bool, List, [], ◌∷◌, length, get_or, refl, ap, arith}
use Rattle.std.proofs.lemmas.List.{length-map}
use Rattle.bio_core.specs.declared.request.Io.{Io}
use Rattle.stack_laws.specs.Passed.{Limits}
use Rattle.range_gate.specs.Gates.{Gated, IsGateFor, conflict_at}
use Rattle.range_gate.proofs.Layouts.{clash_means}
use Rattle.volume_table.specs.Tables.{Table}
use Rattle.run_laws.specs.Passed.{Op}
use Rattle.stack_steps.specs.Shows.{IsGateOf}
use Rattle.stack_walk_laws.specs.Sheets.{do_clash, layout_of, no_print, plan_of, prints_of, request_in}
use Rattle.stack_walk_laws.proofs.Conflicting.{own_layout}
use Rattle.small_laws.proofs.Tests.{same_test}

pub length-prints : (ops : List Op) (shifted : List Bool) → length (prints_of ops shifted) ≡ length ops
length-prints [] bs = refl
length-prints (op ∷ ops) [] = ap suc (length-prints ops [])
length-prints (op ∷ ops) (b ∷ bs) = ap suc (length-prints ops bs)

pub gate-is : (ops : List Op) (shifted : List Bool) (ios : List Io) (table : Table) (limits : Limits) (devices : ℕ) (g : Gated) → length ios ≡ length ops → IsGateFor (prints_of ops shifted) g → IsGateOf (plan_of ops shifted ios table limits devices) g
gate-is ops shifted ios table limits devices g n h = λ j i l m.
    (let fs = prints_of ops shifted in
    let a = length-prints ops shifted in
    let b = length-map ios request_in in
    let f = get_or fs j no_print in
    let e = get_or fs i no_print in
    let k = h.conflicts j i no_print (omega arith) (omega arith) in
    let c = clash_means f e (layout_of f) (layout_of e) (own_layout f) (own_layout e) in
    same_test (conflict_at g.conflicts j i) (do_clash f e) (λ t. c.1 (k.0 t)) (λ t. k.1 (c.0 t)))
