-- The ends of all tracks gathered, in order.
use Rattle.std.proofs.Common.{ℕ, ◌≡◌, ◌+◌, ◌*◌, ◌/◌, ◌%◌, ◌<◌, ◌≤◌, ◌||◌, ◌⊎◌, inl, inr, ltb, eqb, cond, Bool, true, false, List, [], ◌∷◌, refl, ap, ◌∙◌, arith}
use Rattle.std.specs.List.{list_any}
use Rattle.std.proofs.lemmas.Bool.Decides.{nat_tests}
use Rattle.std.proofs.Math.Nat.{add-mul-mod_self_right, mod-add-div', zero-mod}
use Rattle.linear_volume.specs.declared.Linear.{Linear}
use Rattle.volume_tree.specs.Tracks.{FollowsFrom, end_of, put, put_all, put_ends, track_len}
use Rattle.volume_tree.specs.Trees.{AreTracks, is_other_length, is_ragged}
use Rattle.volume_table.proofs.Formulas.{whole_by}
use Rattle.small_laws.proofs.Tests.{same_number}

-- each number is above the one before, the first above this one
abbrev pub Ascends : ℕ → List ℕ → Type 0
Ascends x [] = Unit {0}
Ascends x (y ∷ ys) = (x < y) × Ascends y ys

abbrev pub Each : (ℕ → Type 0) → List ℕ → Type 0
Each P [] = Unit {0}
Each P (y ∷ ys) = P y × Each P ys

abbrev pub IsIn : ℕ → List ℕ → Type 0
IsIn z [] = ⊥
IsIn z (y ∷ ys) = (z ≡ y) ⊎ IsIn z ys

-- the ends of these extents are among the numbers
abbrev pub AreIn : List Linear → List ℕ → Type 0
AreIn [] xs = Unit {0}
AreIn (e ∷ t) xs = IsIn (end_of e) xs × AreIn t xs

abbrev pub AllIn : List (List Linear) → List ℕ → Type 0
AllIn [] xs = Unit {0}
AllIn (t ∷ ts) xs = AreIn t xs × AllIn ts xs

-- what holds of the end of each extent
abbrev pub EndsAre : (ℕ → Type 0) → List Linear → Type 0
EndsAre P [] = Unit {0}
EndsAre P (e ∷ t) = P (end_of e) × EndsAre P t

abbrev pub AllEndsAre : (ℕ → Type 0) → List (List Linear) → Type 0
AllEndsAre P [] = Unit {0}
AllEndsAre P (t ∷ ts) = EndsAre P t × AllEndsAre P ts

-- one number put: by cases of its order with the first of the others
abbrev pub put_by : Bool → Bool → ℕ → ℕ → List ℕ → List ℕ → List ℕ
put_by b c x y ys zs = cond b (y ∷ zs) (cond c (y ∷ ys) (x ∷ y ∷ ys))

less : (x y : ℕ) → ltb y x ≡ true → y < x
less x y h = grind (arith, nat_tests)

more : (x y : ℕ) → ltb y x ≡ false → eqb y x ≡ false → x < y
more x y h k = grind (arith, nat_tests)

same : (x y : ℕ) → eqb y x ≡ true → x ≡ y
same x y h = grind (arith, nat_tests)

ascends_by : (b c : Bool) (a x y : ℕ) (ys zs : List ℕ) → ltb y x ≡ b → eqb y x ≡ c → a < x → a < y → Ascends y ys → (y < x → Ascends y zs) → Ascends a (put_by b c x y ys zs)
ascends_by true c a x y ys zs p q ax ay s r = (ay, r (less x y p))
ascends_by false true a x y ys zs p q ax ay s r = (ay, s)
ascends_by false false a x y ys zs p q ax ay s r = (ax, (more x y p q, s))

put_ascends : (a x : ℕ) (ys : List ℕ) → a < x → Ascends a ys → Ascends a (put x ys)
put_ascends a x [] ax s = (ax, tt)
put_ascends a x (y ∷ ys) ax s = ascends_by (ltb y x) (eqb y x) a x y ys (put x ys) refl refl ax s.0 s.1 (λ h. put_ascends y x ys h s.1)

each_by : (P : ℕ → Type 0) (b c : Bool) (x y : ℕ) (ys zs : List ℕ) → P x → P y → Each P ys → Each P zs → Each P (put_by b c x y ys zs)
each_by P true c x y ys zs px py s r = (py, r)
each_by P false true x y ys zs px py s r = (py, s)
each_by P false false x y ys zs px py s r = (px, (py, s))

put_each : (P : ℕ → Type 0) (x : ℕ) (ys : List ℕ) → P x → Each P ys → Each P (put x ys)
put_each P x [] p s = (p, tt)
put_each P x (y ∷ ys) p s = each_by P (ltb y x) (eqb y x) x y ys (put x ys) p s.0 s.1 (put_each P x ys p s.1)

in_by : (b c : Bool) (z x y : ℕ) (ys zs : List ℕ) → (z ≡ y) ⊎ IsIn z ys → (IsIn z ys → IsIn z zs) → IsIn z (put_by b c x y ys zs)
in_by true c z x y ys zs (inl e) r = inl e
in_by true c z x y ys zs (inr h) r = inr (r h)
in_by false true z x y ys zs h r = h
in_by false false z x y ys zs h r = inr h

put_keeps : (z x : ℕ) (ys : List ℕ) → IsIn z ys → IsIn z (put x ys)
put_keeps z x [] h = absurd h
put_keeps z x (y ∷ ys) h = in_by (ltb y x) (eqb y x) z x y ys (put x ys) h (put_keeps z x ys)

new_by : (b c : Bool) (x y : ℕ) (ys zs : List ℕ) → eqb y x ≡ c → IsIn x zs → IsIn x (put_by b c x y ys zs)
new_by true c x y ys zs e r = inr r
new_by false true x y ys zs e r = inl (same x y e)
new_by false false x y ys zs e r = inl refl

put_in : (x : ℕ) (ys : List ℕ) → IsIn x (put x ys)
put_in x [] = inl refl
put_in x (y ∷ ys) = new_by (ltb y x) (eqb y x) x y ys (put x ys) refl (put_in x ys)

-- a condition on numbers that are ends, and such numbers ascending
pub record Gathered (P : ℕ → Type 0) (xs : List ℕ) : Type 0 where
  pub ascends : Ascends 0 xs
  pub each : Each P xs

put_gathers : (P : ℕ → Type 0) (x : ℕ) (xs : List ℕ) → 0 < x → P x → Gathered P xs → Gathered P (put x xs)
put_gathers P x xs h p g = record { ascends = put_ascends 0 x xs h g.ascends; each = put_each P x xs p g.each }

abbrev pub Above : (ℕ → Type 0) → ℕ → Type 0
Above P z = (0 < z) × P z

ends_gather : (P : ℕ → Type 0) (t : List Linear) (xs : List ℕ) → EndsAre (Above P) t → Gathered P xs → Gathered P (put_ends xs t)
ends_gather P [] xs h g = g
ends_gather P (e ∷ t) xs h g = ends_gather P t (put (end_of e) xs) h.1 (put_gathers P (end_of e) xs h.0.0 h.0.1 g)

pub all_gather : (P : ℕ → Type 0) (ts : List (List Linear)) (xs : List ℕ) → AllEndsAre (Above P) ts → Gathered P xs → Gathered P (put_all xs ts)
all_gather P [] xs h g = g
all_gather P (t ∷ ts) xs h g = all_gather P ts (put_ends xs t) h.1 (ends_gather P t xs h.0 g)

ends_keep : (z : ℕ) (t : List Linear) (xs : List ℕ) → IsIn z xs → IsIn z (put_ends xs t)
ends_keep z [] xs h = h
ends_keep z (e ∷ t) xs h = ends_keep z t (put (end_of e) xs) (put_keeps z (end_of e) xs h)

all_keep : (z : ℕ) (ts : List (List Linear)) (xs : List ℕ) → IsIn z xs → IsIn z (put_all xs ts)
all_keep z [] xs h = h
all_keep z (t ∷ ts) xs h = all_keep z ts (put_ends xs t) (ends_keep z t xs h)

are_in : (t u : List Linear) (ts : List (List Linear)) (xs : List ℕ) → AreIn u xs → AreIn u (put_all xs ts)
are_in t [] ts xs h = tt
are_in t (e ∷ u) ts xs h = (all_keep (end_of e) ts xs h.0, are_in t u ts xs h.1)

track_in : (t : List Linear) (xs : List ℕ) → AreIn t (put_ends xs t)
track_in [] xs = tt
track_in (e ∷ t) xs = (ends_keep (end_of e) t (put (end_of e) xs) (put_in (end_of e) xs), track_in t (put (end_of e) xs))

pub all_in : (ts : List (List Linear)) (xs : List ℕ) → AllIn ts (put_all xs ts)
all_in [] xs = tt
all_in (t ∷ ts) xs = (are_in t t ts (put_ends xs t) (track_in t xs), all_in ts (put_ends xs t))

-- where inner volumes have m blocks each, in whole chunks, each end is at most m and whole chunks
abbrev pub IsCut : (m chunk : ℕ) → ℕ → Type 0
IsCut m chunk z = (z ≤ m) × (z % chunk ≡ 0)

pub or_first : (a b : Bool) → a || b ≡ false → a ≡ false
or_first true b h = absurd (cc)
or_first false b h = refl

pub or_second : (a b : Bool) → a || b ≡ false → b ≡ false
or_second true b h = absurd (cc)
or_second false b h = h

mod_sum : (c a b : ℕ) → a % c ≡ 0 → b % c ≡ 0 → (a + b) % c ≡ 0
mod_sum c a b za zb =
    let whole : b ≡ b / c * c = omega (arith, mod-add-div' b c, zb) in
    ap (λ x. (a + x) % c) whole ∙ add-mul-mod_self_right a (b / c) c ∙ za

ends_are : (m chunk a : ℕ) (t : List Linear) → FollowsFrom a t → a % chunk ≡ 0 → a + track_len t ≤ m → list_any (is_ragged chunk) t ≡ false → EndsAre (Above (IsCut m chunk)) t
ends_are m chunk a [] f z w r = tt
ends_are m chunk a (e ∷ t) f z w r =
    let s : e.start ≡ a = f.1 in
    let n = f.0.len.0 in
    let whole : e.len % chunk ≡ 0 = whole_by (e.len % chunk) (or_first (is_ragged chunk e) (list_any (is_ragged chunk) t) r) in
    let sum : (a + e.len) % chunk ≡ 0 = mod_sum chunk a e.len z whole in (
      (omega (arith, s, n), (omega (arith, s, w), ap (λ x. (x + e.len) % chunk) s ∙ sum)),
      ends_are m chunk (a + e.len) t f.2 sum (omega (arith, w)) (or_second (is_ragged chunk e) (list_any (is_ragged chunk) t) r),
    )

pub all_ends_are : (m chunk : ℕ) (ts : List (List Linear)) → AreTracks ts → list_any (is_other_length m) ts ≡ false → list_any (λ t. list_any (is_ragged chunk) t) ts ≡ false → AllEndsAre (Above (IsCut m chunk)) ts
all_ends_are m chunk [] f l r = tt
all_ends_are m chunk (t ∷ ts) f l r =
    let here : track_len t ≡ m = same_number (track_len t) m (or_first (is_other_length m t) (list_any (is_other_length m) ts) l) in (
      ends_are m chunk 0 t f.0 (zero-mod chunk) (omega (arith, here)) (or_first (list_any (is_ragged chunk) t) (list_any (λ u. list_any (is_ragged chunk) u) ts) r),
      all_ends_are m chunk ts f.1 (or_second (is_other_length m t) (list_any (is_other_length m) ts) l) (or_second (list_any (is_ragged chunk) t) (list_any (λ u. list_any (is_ragged chunk) u) ts) r),
    )
