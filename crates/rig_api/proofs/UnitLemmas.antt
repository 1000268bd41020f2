-- The entries of a header, one behind the other.
use Rattle.std.proofs.Common.{◌≡◌, ℕ, zero, suc, ◌+◌, ◌-◌, ◌<◌, ◌≤◌, List, [], ◌∷◌, ◌++◌, length, get_or, take, drop, refl, sym, ap, ◌∙◌, append_assoc, append-nil, take_all, arith}
use Rattle.std.specs.Prelude.{map, replicate}
use Rattle.std.proofs.lemmas.List.{take-replicate}
use Rattle.rig_api.specs.declared.units.UnitSpec.{UnitSpec}
use Rattle.rig_api.specs.declared.units.Version.{Version}
use Rattle.rig_api.specs.declared.units.Version.TheVariants.{First, Second}
use Rattle.rig_api.specs.Frames.{joined}
use Rattle.rig_api.specs.Headers.{entry_of, entry_size, padded, spec_of, specs_from}

-- one entry more
pub joined_next : (f : UnitSpec → List ℕ) (d : UnitSpec) (us : List UnitSpec) (i j : ℕ) → i < length us → j ≡ i + 1 →
    joined (map f (take j us)) ≡ joined (map f (take i us)) ++ f (get_or us i d)
joined_next f d [] i j h e = absurd (omega arith)
joined_next f d (u ∷ us) zero j h e = let one : j ≡ 1 = omega arith in rw one (append-nil (f u))
joined_next f d (u ∷ us) (suc i) j h e =
    let two : j ≡ suc (i + 1) = omega arith in
    rw two (ap (λ v. f u ++ v) (joined_next f d us i (i + 1) (omega arith) refl) ∙ sym (append_assoc (f u) (joined (map f (take i us))) (f (get_or us i d))))

-- one unit more
pub specs_next : (v : Version) (n m : ℕ) (b : List ℕ) (us : List UnitSpec) → n ≡ m + 1 →
    us ++ specs_from v n b ≡ (us ++ (spec_of v b ∷ [])) ++ specs_from v m (drop (entry_size v) b)
specs_next v n m b us h = let e : n ≡ suc m = omega arith in rw e (sym (append_assoc us (spec_of v b ∷ []) (specs_from v m (drop (entry_size v) b))))

-- an entry has its size
pub entry_length : (v : Version) (u : UnitSpec) → length (entry_of v u) ≡ entry_size v
entry_length First u = refl
entry_length Second u = refl

pub entry_small : (v : Version) → (16 ≤ entry_size v) × (entry_size v ≤ 32)
entry_small First = (omega arith, omega arith)
entry_small Second = (omega arith, omega arith)

pub more_items : (f : UnitSpec → List ℕ) (d : UnitSpec) (us : List UnitSpec) (i : ℕ) (start out e now : List ℕ) → i < length us →
    out ≡ start ++ joined (map f (take i us)) → now ≡ out ++ e → e ≡ f (get_or us i d) → now ≡ start ++ joined (map f (take (i + 1) us))
more_items f d us i start out e now h eo en ee =
    en ∙ ap (λ v. v ++ e) eo ∙ ap (λ v. (start ++ joined (map f (take i us))) ++ v) ee
    ∙ append_assoc start (joined (map f (take i us))) (f (get_or us i d)) ∙ ap (λ v. start ++ v) (sym (joined_next f d us i (i + 1) h refl))

pub all_taken : (f : UnitSpec → List ℕ) (us : List UnitSpec) (i : ℕ) → length us ≤ i → joined (map f (take i us)) ≡ joined (map f us)
all_taken f us i h = ap (λ v. joined (map f v)) (take_all i us h)

pub padded_by : (a b z j start out now : List ℕ) (n : ℕ) → start ≡ a ++ (b ++ z) → out ≡ start ++ j → n ≡ 512 - length out → now ≡ out ++ take n (replicate 512 0) →
    now ≡ padded 512 (a ++ (b ++ (z ++ j)))
padded_by a b z j start out now n es eo en ew =
    let whole : out ≡ a ++ (b ++ (z ++ j)) = eo ∙ ap (λ v. v ++ j) es ∙ append_assoc a (b ++ z) j ∙ ap (λ v. a ++ v) (append_assoc b z j) in
    let zeros : take n (replicate 512 0) ≡ replicate n 0 = take-replicate n 512 0 (omega arith) in
    ew ∙ ap (λ v. out ++ v) (zeros ∙ ap (λ v. replicate v 0) en) ∙ ap (λ v. v ++ replicate (512 - length v) 0) whole

-- the last of no units
pub specs_end : (v : Version) (n m : ℕ) (b rest : List ℕ) (us : List UnitSpec) → specs_from v n b ≡ us ++ specs_from v m rest → m ≡ 0 → us ≡ specs_from v n b
specs_end v n m b rest us e z = let none : specs_from v m rest ≡ [] = rw z refl in sym (e ∙ ap (λ w. us ++ w) none ∙ append-nil us)
