-- How the formatted image grows, block by block and unit by unit.
use Rattle.std.proofs.Common.{◌≡◌, ℕ, zero, suc, ◌+◌, ◌<◌, ◌≤◌, Bool, true, false, eqb, ◌&&◌, List, [], ◌∷◌, ◌++◌, length, take, replicate, get_or, refl, sym, ap, ◌∙◌, arith, append_assoc, append-nil}
use Rattle.std.specs.List.{list_all}
use Rattle.std.proofs.lemmas.List.{take_all, take-take, take-replicate}
use Rattle.pi_tuple.specs.declared.checks.PiType.{PiType}
use Rattle.rig_api.specs.Frames.{joined, stored_size}
use Rattle.rig_api.specs.Headers.{header, is_first, is_spec, version_for}
use Rattle.rig_api.specs.Image.{all_fresh, formatted, fresh, fresh_bytes, fresh_from}
use Rattle.rig_api.specs.declared.units.UnitSpec.{UnitSpec}
use Rattle.rig_api.proofs.FrameLaws.{stored_least}
use Rattle.image_rig.specs.Small.{is_small}

and_assoc : (a b c : Bool) → (a && (b && c)) ≡ ((a && b) && c)
and_assoc true b c = refl
and_assoc false b c = refl

pub first_is_small : (us : List UnitSpec) → is_first us ≡ list_all is_small us
first_is_small [] = refl
first_is_small (u ∷ us) = ap (λ b. eqb u.size 512 && (eqb u.first 0 && b)) (first_is_small us) ∙ and_assoc (eqb u.size 512) (eqb u.first 0) (list_all is_small us)

-- ---- what is appended

-- one block more
pub fresh_more : (ty : PiType) (size lba k : ℕ) → joined (fresh_from ty size lba (k + 1)) ≡ joined (fresh_from ty size lba k) ++ fresh ty size (lba + k)
fresh_more ty size lba zero = let e : lba + 0 ≡ lba = omega arith in rw e (append-nil (fresh ty size lba))
fresh_more ty size lba (suc k) =
    let n : suc k + 1 ≡ suc (k + 1) = omega arith in
    let a : lba + 1 + k ≡ lba + suc k = omega arith in
    rw n (ap (λ v. fresh ty size lba ++ v) (fresh_more ty size (lba + 1) k ∙ ap (λ b. joined (fresh_from ty size (lba + 1) k) ++ fresh ty size b) a)
    ∙ sym (append_assoc (fresh ty size lba) (joined (fresh_from ty size (lba + 1) k)) (fresh ty size (lba + suc k))))

-- one unit more
pub units_more : (us : List UnitSpec) (i : ℕ) (d : UnitSpec) → i < length us → fresh_bytes (take (i + 1) us) ≡ fresh_bytes (take i us) ++ joined (all_fresh (get_or us i d))
units_more [] i d h = absurd (omega arith)
units_more (u ∷ us) zero d h = append-nil (joined (all_fresh u))
units_more (u ∷ us) (suc i) d h =
    let n : suc i + 1 ≡ suc (i + 1) = omega arith in
    rw n (ap (λ v. joined (all_fresh u) ++ v) (units_more us i d (omega arith)) ∙ sym (append_assoc (joined (all_fresh u)) (fresh_bytes (take i us)) (joined (all_fresh (get_or us i d)))))

pub all_units : (us : List UnitSpec) (i : ℕ) → length us ≤ i → header (version_for us) us ++ fresh_bytes (take i us) ≡ formatted us
unfolding formatted
all_units us i h = ap (λ v. header (version_for us) us ++ fresh_bytes v) (take_all i us h)

-- ---- room for a block

size_spec : (u : UnitSpec) → is_spec u ≡ true → u.size ≤ 4096
size_spec u h = grind arith

pub zeros_room : (u : UnitSpec) (n : ℕ) → is_spec u ≡ true → n ≡ stored_size u.ty u.size → take u.size (take n (replicate {A = ℕ} 4104 0)) ≡ replicate u.size 0
zeros_room u n h e =
    let a = size_spec u h in
    let b = stored_least u.ty u.size in
    let zeros : List ℕ = replicate 4104 0 in
    take-take u.size n zeros (omega arith) ∙ take-replicate u.size 4104 0 (omega arith)
