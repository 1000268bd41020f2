-- How stored blocks and units are looked at, one after another.
use Rattle.std.proofs.Common.{◌≡◌, ℕ, ◌+◌, ◌*◌, ◌-◌, ◌<◌, ◌≤◌, true, List, ◌∷◌, length, take, drop, Option, Some, None, sym, ap, subst, ◌∙◌, arith}
use Rattle.std.specs.List.{list_all}
use Rattle.std.proofs.lemmas.Bool.{and_parts}
use Rattle.std.proofs.lemmas.List.{length-drop}
use Rattle.pi_tuple.specs.declared.checks.Check.{Check}
use Rattle.pi_tuple.specs.declared.checks.PiType.{PiType}
use Rattle.rig_api.specs.Frames.{frames_of, stored_size}
use Rattle.rig_api.specs.Headers.{all_bytes, bytes_of, is_spec}
use Rattle.rig_api.specs.Image.{units_from}
use Rattle.rig_api.specs.declared.units.UnitSpec.{UnitSpec}
use Rattle.image_text.proofs.Frames.{next_frame}
use Rattle.flip_sweep.specs.Verdicts.{first_spoilt, first_spoilt_from, new_finding, or_else, spoilt_of}
use Rattle.flip_sweep.specs.declared.verdict.Verdict.{Verdict}
use Rattle.flip_sweep.specs.declared.verdict.Verdict.TheVariants.{Scrub}
use Rattle.dix_adapter.proofs.OnRecord.{frames-front}

-- the first of some blocks, and those behind it
pub next_block : (ty : PiType) (size dev lba len n : ℕ) (was now : List ℕ) → 0 < n
    → first_spoilt_from ty size dev lba (frames_of len n was) (frames_of len n now)
    ≡ or_else (spoilt_of dev lba (new_finding ty size lba (take len was) (take len now))) (first_spoilt_from ty size dev (lba + 1) (frames_of len (n - 1) (drop len was)) (frames_of len (n - 1) (drop len now)))
next_block ty size dev lba len n was now h = ap (λ xs. first_spoilt_from ty size dev lba xs (frames_of len n now)) (next_frame len n was h) ∙ ap (λ ys. first_spoilt_from ty size dev lba (take len was ∷ frames_of len (n - 1) (drop len was)) ys) (next_frame len n now h)

pub found_here : (ty : PiType) (size dev lba len m n : ℕ) (was now one other : List ℕ) (check : Check) → m ≡ len → one ≡ take m was → other ≡ take m now → new_finding ty size lba one other ≡ Some check → 0 < n
    → Some (Scrub dev lba check) ≡ first_spoilt_from ty size dev lba (frames_of len n was) (frames_of len n now)
found_here ty size dev lba len m n was now one other check e a b f h =
    let here : Some check ≡ new_finding ty size lba (take len was) (take len now) = sym f ∙ ap (λ x. new_finding ty size lba x other) (a ∙ ap (λ k. take k was) e) ∙ ap (λ y. new_finding ty size lba (take len was) y) (b ∙ ap (λ k. take k now) e) in
    ap (λ c. or_else (spoilt_of dev lba c) (first_spoilt_from ty size dev (lba + 1) (frames_of len (n - 1) (drop len was)) (frames_of len (n - 1) (drop len now)))) here
    ∙ sym (next_block ty size dev lba len n was now h)

pub not_here : (ty : PiType) (size dev lba len m n : ℕ) (was now one other behind more : List ℕ) → m ≡ len → one ≡ take m was → behind ≡ drop m was → other ≡ take m now → more ≡ drop m now → new_finding ty size lba one other ≡ None → 0 < n
    → first_spoilt_from ty size dev (lba + 1) (frames_of len (n - 1) behind) (frames_of len (n - 1) more) ≡ first_spoilt_from ty size dev lba (frames_of len n was) (frames_of len n now)
not_here ty size dev lba len m n was now one other behind more e a r b q f h =
    let here : None ≡ new_finding ty size lba (take len was) (take len now) = sym f ∙ ap (λ x. new_finding ty size lba x other) (a ∙ ap (λ k. take k was) e) ∙ ap (λ y. new_finding ty size lba (take len was) y) (b ∙ ap (λ k. take k now) e) in
    let rest = first_spoilt_from ty size dev (lba + 1) (frames_of len (n - 1) (drop len was)) (frames_of len (n - 1) (drop len now)) in
    ap (λ x. first_spoilt_from ty size dev (lba + 1) (frames_of len (n - 1) x) (frames_of len (n - 1) more)) (r ∙ ap (λ k. drop k was) e)
    ∙ ap (λ y. first_spoilt_from ty size dev (lba + 1) (frames_of len (n - 1) (drop len was)) (frames_of len (n - 1) y)) (q ∙ ap (λ k. drop k now) e)
    ∙ ap (λ c. or_else (spoilt_of dev lba c) rest) here
    ∙ sym (next_block ty size dev lba len n was now h)

-- ---- units

-- the first block of a unit that is at fault and isn't so otherwise
abbrev first_of_unit : UnitSpec → (dev : ℕ) → (was now : List ℕ) → Option Verdict
first_of_unit u dev was now = first_spoilt_from u.ty u.size dev u.first (frames_of (stored_size u.ty u.size) u.blocks was) (frames_of (stored_size u.ty u.size) u.blocks now)

front_of_unit : (u : UnitSpec) (dev m : ℕ) (was now one other : List ℕ) → m ≡ bytes_of u → one ≡ take m was → other ≡ take m now → first_of_unit u dev one other ≡ first_of_unit u dev was now
front_of_unit u dev m was now one other e a b =
    let len = stored_size u.ty u.size in
    ap (λ x. first_of_unit u dev x other) (a ∙ ap (λ k. take k was) e) ∙ ap (λ y. first_of_unit u dev (take (bytes_of u) was) y) (b ∙ ap (λ k. take k now) e)
    ∙ ap (λ xs. first_spoilt_from u.ty u.size dev u.first xs (frames_of len u.blocks (take (u.blocks * len) now))) (frames-front len u.blocks was)
    ∙ ap (λ ys. first_spoilt_from u.ty u.size dev u.first (frames_of len u.blocks was) ys) (frames-front len u.blocks now)

pub found_in_unit : (us others : List UnitSpec) (u : UnitSpec) (dev m : ℕ) (was now one other : List ℕ) (v : Verdict) → us ≡ u ∷ others → m ≡ bytes_of u → one ≡ take m was → other ≡ take m now
    → Some v ≡ first_spoilt_from u.ty u.size dev u.first (frames_of (stored_size u.ty u.size) u.blocks one) (frames_of (stored_size u.ty u.size) u.blocks other)
    → Some v ≡ first_spoilt dev (units_from us was) (units_from us now)
found_in_unit us others u dev m was now one other v s e a b f =
    ap (λ o. or_else o (first_spoilt (dev + 1) (units_from others (drop (bytes_of u) was)) (units_from others (drop (bytes_of u) now)))) (f ∙ front_of_unit u dev m was now one other e a b)
    ∙ ap (λ xs. first_spoilt dev (units_from xs was) (units_from xs now)) (sym s)

pub not_in_unit : (us others : List UnitSpec) (u : UnitSpec) (dev m : ℕ) (was now one other behind more : List ℕ) → us ≡ u ∷ others → m ≡ bytes_of u → one ≡ take m was → behind ≡ drop m was → other ≡ take m now → more ≡ drop m now
    → None ≡ first_spoilt_from u.ty u.size dev u.first (frames_of (stored_size u.ty u.size) u.blocks one) (frames_of (stored_size u.ty u.size) u.blocks other)
    → first_spoilt (dev + 1) (units_from others behind) (units_from others more) ≡ first_spoilt dev (units_from us was) (units_from us now)
not_in_unit us others u dev m was now one other behind more s e a r b q f =
    ap (λ x. first_spoilt (dev + 1) (units_from others x) (units_from others more)) (r ∙ ap (λ k. drop k was) e)
    ∙ ap (λ y. first_spoilt (dev + 1) (units_from others (drop (bytes_of u) was)) (units_from others y)) (q ∙ ap (λ k. drop k now) e)
    ∙ ap (λ o. or_else o (first_spoilt (dev + 1) (units_from others (drop (bytes_of u) was)) (units_from others (drop (bytes_of u) now)))) (f ∙ front_of_unit u dev m was now one other e a b)
    ∙ ap (λ xs. first_spoilt dev (units_from xs was) (units_from xs now)) (sym s)

behind_unit : (us others : List UnitSpec) (u : UnitSpec) (m : ℕ) (bytes more : List ℕ) → us ≡ u ∷ others → m ≡ bytes_of u → more ≡ drop m bytes → length bytes ≡ all_bytes us → length more ≡ all_bytes others
behind_unit us others u m bytes more s e r l = let d = ap length r ∙ length-drop m bytes in let a = l ∙ ap all_bytes s in omega (arith, d, a, e)

-- what is kept from unit to unit
pub record OnUnits (us : List UnitSpec) (dev : ℕ) (was now : List ℕ) (want : Option Verdict) : Type 0 where
  pub spoilt : first_spoilt dev (units_from us was) (units_from us now) ≡ want
  pub specs : list_all is_spec us ≡ true
  pub was_long : length was ≡ all_bytes us
  pub now_long : length now ≡ all_bytes us
  pub few : dev + length us ≤ 8

all_behind : (u : UnitSpec) (others : List UnitSpec) → list_all is_spec (u ∷ others) ≡ true → list_all is_spec others ≡ true
all_behind u others h = (and_parts (is_spec u) (list_all is_spec others) h).1

pub next_unit : (us others : List UnitSpec) (u : UnitSpec) (dev m : ℕ) (was now one other behind more : List ℕ) (want : Option Verdict) → us ≡ u ∷ others → m ≡ bytes_of u → one ≡ take m was → behind ≡ drop m was → other ≡ take m now → more ≡ drop m now
    → None ≡ first_spoilt_from u.ty u.size dev u.first (frames_of (stored_size u.ty u.size) u.blocks one) (frames_of (stored_size u.ty u.size) u.blocks other)
    → OnUnits us dev was now want → OnUnits others (dev + 1) behind more want
next_unit us others u dev m was now one other behind more want s e a r b q f on = record {
  spoilt = not_in_unit us others u dev m was now one other behind more s e a r b q f ∙ on.spoilt;
  specs = all_behind u others (subst (λ xs. list_all is_spec xs ≡ true) s on.specs);
  was_long = behind_unit us others u m was behind s e r on.was_long;
  now_long = behind_unit us others u m now more s e q on.now_long;
  few = let n = ap length s in let k = on.few in omega arith;
}
