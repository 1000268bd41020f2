-- The conflicts of a plan are those of its ops.
use Rattle.std.proofs.Common.{◌≡◌, ℕ, zero, suc, Bool, true, false, List, [], ◌∷◌, get_or, refl, sym, ap, ◌∙◌, ◌↔◌}
use Rattle.std.proofs.lemmas.List.Sorted.{IsPermutation-refl}
use Rattle.range_gate.specs.declared.footprint.Footprint.{Footprint}
use Rattle.range_gate.specs.Conflicts.{Conflict}
use Rattle.range_gate.specs.Layout.{IsLayoutOf}
use Rattle.range_gate.specs.Prints.{chosen}
use Rattle.range_gate.proofs.Layouts.{clash_means}
use Rattle.bio_core.specs.declared.request.Io.{Io}
use Rattle.stack_laws.specs.Passed.{Limits}
use Rattle.volume_table.specs.Tables.{Table}
use Rattle.run_laws.specs.Passed.{Op, footprint}
use Rattle.stack_walk_laws.specs.Sheets.{do_clash, layout_of, no_print, op_in, plan_of, prints_of}

print_at : (ops : List Op) (shifted : List Bool) (i : ℕ) → get_or (prints_of ops shifted) i no_print ≡ footprint (op_in ops i) (get_or shifted i false)
print_at [] [] i = refl
print_at [] (b ∷ bs) i = refl
print_at (op ∷ ops) [] zero = refl
print_at (op ∷ ops) [] (suc i) = print_at ops [] i
print_at (op ∷ ops) (b ∷ bs) zero = refl
print_at (op ∷ ops) (b ∷ bs) (suc i) = print_at ops bs i

pub own_layout : (f : Footprint) → IsLayoutOf f (layout_of f)
own_layout f = record { alone = refl; blocks = refl; reads = IsPermutation-refl (chosen false f.bytes); writes = IsPermutation-refl (chosen true f.bytes) }

do_clash_means : (f g : Footprint) → (do_clash f g ≡ true) ↔ Conflict f g
do_clash_means f g = clash_means f g (layout_of f) (layout_of g) (own_layout f) (own_layout g)

pub conflicts : (ops : List Op) (shifted : List Bool) (ios : List Io) (t : Table) (limits : Limits) (devices j i : ℕ) →
    ((plan_of ops shifted ios t limits devices).conflicts j i ≡ true) ↔ Conflict (footprint (op_in ops j) (get_or shifted j false)) (footprint (op_in ops i) (get_or shifted i false))
conflicts ops shifted ios t limits devices j i =
    let a = print_at ops shifted j in
    let b = print_at ops shifted i in
    let c = ap (λ f. do_clash f (get_or (prints_of ops shifted) i no_print)) a ∙ ap (do_clash (footprint (op_in ops j) (get_or shifted j false))) b in
    let k = do_clash_means (footprint (op_in ops j) (get_or shifted j false)) (footprint (op_in ops i) (get_or shifted i false)) in
    (λ h. k.0 (sym c ∙ h), λ h. c ∙ k.1 h)
