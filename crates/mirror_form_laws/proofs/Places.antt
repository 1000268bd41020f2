-- Which virtual block a place of a request has on each leg.
use Rattle.std.proofs.Common.{◌≡◌, ◌<◌, ◌≤◌, ℕ, ◌+◌, ◌-◌, false, if◌then◌else◌, ap, ◌∙◌, arith}
use Rattle.std.specs.Prelude.{nat_lt}
use Rattle.std.proofs.lemmas.Bool.{lt-ltb, ltb-true, false_from_ne_true}
use Rattle.stack_ops.specs.declared.op.Op.{Op}
use Rattle.stack_ops.specs.Ops.{first_virt}
use Rattle.mirror_laws.specs.Mirror.{blocks_in}
use Rattle.mirror_form_laws.specs.Forms.{virt_in}

pub not_below : (a b : ℕ) → b ≤ a → nat_lt a b ≡ false
not_below a b h = false_from_ne_true (nat_lt a b) (λ t. let l = ltb-true a b t in omega (arith, h, l))

pub on_leg0 : (half : ℕ) (op : Op) (k : ℕ) → k < blocks_in op → virt_in half op k ≡ first_virt op + k
on_leg0 half op k l = ap (λ c. if c then first_virt op + k else half + (first_virt op + (k - blocks_in op))) (lt-ltb k (blocks_in op) l)

pub on_leg1 : (half : ℕ) (op : Op) (k : ℕ) → virt_in half op (blocks_in op + k) ≡ half + (first_virt op + k)
on_leg1 half op k =
    let n = blocks_in op in
    let back : (n + k) - n ≡ k = omega arith in
    ap (λ c. if c then first_virt op + (n + k) else half + (first_virt op + ((n + k) - n))) (not_below (n + k) n (omega arith)) ∙ ap (λ j. half + (first_virt op + j)) back
