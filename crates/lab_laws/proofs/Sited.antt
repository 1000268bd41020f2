-- What holds of each crossing of a script, op by op.
use Rattle.std.proofs.Common.{◌≡◌, ◌<◌, ℕ, zero, suc, ◌+◌, ◌-◌, List, [], ◌∷◌, ◌++◌, length, get_or, Some, refl, sym, ap, subst, ◌∙◌, arith, append_assoc, length-append}
use Rattle.std.specs.Prelude.{slice_get}
use Rattle.std.proofs.lemmas.List.{get_or_at}
use Rattle.script_laws.specs.Keeping.{Each}
use Rattle.script_lines.specs.declared.line.Spot.{Spot}
use Rattle.script_lines.specs.declared.line.Spot.TheVariants.{Host, Wire, Medium}
use Rattle.script_text.specs.Bindings.{request_of}
use Rattle.script_text.specs.Crossings.{is_read, is_read_op}
use Rattle.stack_ops.specs.declared.op.Op.{Op}
use Rattle.stack_ops.specs.declared.op.Op.TheVariants.{Wait}
use Rattle.run_premises.specs.Forms.{op_of}
use Rattle.flip_sweep.specs.Flips.{count_in, site, sites_from, sites_on}
use Rattle.flip_sweep.specs.declared.flips.Site.{Site}

each_both : (P : Site → Type 0) (xs ys : List Site) → Each P xs → Each P ys → Each P (xs ++ ys)
each_both P [] ys h k = k
each_both P (x ∷ xs) ys h k = (h.0, each_both P xs ys h.1 k)

each_on : (P : Site → Type 0) (number j c : ℕ) → ((k : ℕ) (spot : Spot) → k < j + c → P (site number k spot)) → Each P (sites_on number j c)
each_on P number j zero h = tt
each_on P number j (suc c) h =
    let l : j < j + suc c = omega arith in
    (h j Host l, (h j Wire l, (h j Medium l, each_on P number (j + 1) c (λ k spot l. h k spot (omega (arith, l))))))

-- a block of an op that stands behind these
abbrev pub HoldsAt : (P : Site → Type 0) → List Op → Type 0
HoldsAt P ops = (before after : List Op) (op : Op) (k : ℕ) (spot : Spot) → before ++ (op ∷ after) ≡ ops → k < count_in (request_of op) → P (site (suc (length before)) k spot)

each_from_here : (P : Site → Type 0) (ops : List Op) → HoldsAt P ops → (before rest : List Op) (number : ℕ) → before ++ rest ≡ ops → number ≡ suc (length before) → Each P (sites_from number rest)
each_from_here P ops h before [] number e n = tt
each_from_here P ops h before (op ∷ rest) number e n =
    let one : length (before ++ (op ∷ [])) ≡ length before + 1 = length-append before (op ∷ []) in
    each_both P (sites_on number 0 (count_in (request_of op))) (sites_from (number + 1) rest)
    (each_on P number 0 (count_in (request_of op)) (λ k spot l. subst (λ i. P (site i k spot)) (sym n) (h before rest op k spot e (omega (arith, l)))))
    (each_from_here P ops h (before ++ (op ∷ [])) rest (number + 1) (append_assoc before (op ∷ []) rest ∙ e) (omega (arith, n, one)))

pub each_site : (P : Site → Type 0) (ops : List Op) → HoldsAt P ops → Each P (sites_from 1 ops)
each_site P ops h = each_from_here P ops h [] ops 1 refl refl

-- ---- the op of a number

get_at : (before after : List Op) (op : Op) → slice_get (before ++ (op ∷ after)) (length before) ≡ Some op
get_at [] after op = refl
get_at (x ∷ before) after op = get_at before after op

pub op_there : (before after : List Op) (op : Op) → op_of (before ++ (op ∷ after)) (suc (length before)) ≡ op
op_there before after op = let e : suc (length before) - 1 ≡ length before = omega arith in ap (λ i. get_or (before ++ (op ∷ after)) i Wait) e ∙ get_or_at before op after Wait (length before) refl

pub is_read_there : (before after : List Op) (op : Op) → is_read (before ++ (op ∷ after)) (suc (length before)) ≡ is_read_op (Some op)
is_read_there before after op = let e : suc (length before) - 1 ≡ length before = omega arith in ap (λ i. is_read_op (slice_get (before ++ (op ∷ after)) i)) e ∙ ap is_read_op (get_at before after op)
