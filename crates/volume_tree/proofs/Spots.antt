-- A place along a track, and one further on in the same extent.
use Rattle.std.proofs.Common.{ℕ, ◌≡◌, ◌+◌, ◌-◌, ◌<◌, ◌≤◌, ◌⊎◌, inl, inr, ltb, cond, Bool, true, false, List, [], ◌∷◌, find, Some, refl, sym, ap, ◌∙◌, arith}
use Rattle.std.proofs.lemmas.Bool.Decides.{nat_tests}
use Rattle.std.proofs.lemmas.Bool.{ltb-true, ltb-false}
use Rattle.linear_volume.specs.declared.Linear.{Linear}
use Rattle.volume_tree.specs.Tracks.{FollowsFrom, end_of, is_held, place_by, track_len, track_place}
use Rattle.volume_tree.proofs.Gathering.{AreIn, IsIn}

-- no number lies between these two
abbrev pub Gap : ℕ → ℕ → List ℕ → Type 0
Gap x y xs = (z : ℕ) → IsIn z xs → (z ≤ x) ⊎ (y ≤ z)

-- one extent has both blocks
pub record Spot (t : List Linear) (x o : ℕ) : Type 0 where
  pub extent : Linear
  pub at_x : find (is_held x) t ≡ Some extent
  pub at_o : find (is_held o) t ≡ Some extent
  pub begins : extent.start ≤ x

held_yes : (x : ℕ) (e : Linear) (t : List Linear) → e.start ≤ x → x < end_of e → find (is_held x) (e ∷ t) ≡ Some e
held_yes x e t a b =
    let p : is_held x e ≡ true = grind (arith, nat_tests) in
    ap (λ c. cond c (Some e) (find (is_held x) t)) p

held_no : (x : ℕ) (e : Linear) (t : List Linear) → end_of e ≤ x → find (is_held x) (e ∷ t) ≡ find (is_held x) t
held_no x e t a =
    let p : is_held x e ≡ false = grind (arith, nat_tests) in
    ap (λ c. cond c (Some e) (find (is_held x) t)) p

ends_behind : (x y e : ℕ) → x < e → (e ≤ x) ⊎ (y ≤ e) → y ≤ e
ends_behind x y e h (inl k) = absurd (omega arith)
ends_behind x y e h (inr k) = k

here : (x y o : ℕ) (e : Linear) (t : List Linear) → e.start ≤ x → x < end_of e → y ≤ end_of e → x ≤ o → o < y → Spot (e ∷ t) x o
here x y o e t s h k l m = record { extent = e; at_x = held_yes x e t s h; at_o = held_yes o e t (omega arith) (omega arith); begins = s }

there : (x o : ℕ) (e : Linear) (t : List Linear) → end_of e ≤ x → x ≤ o → Spot t x o → Spot (e ∷ t) x o
there x o e t h k r = record { extent = r.extent; at_x = held_no x e t h ∙ r.at_x; at_o = held_no o e t (omega arith) ∙ r.at_o; begins = r.begins }

held_by : (b : Bool) (a x y o : ℕ) (e : Linear) (t : List Linear) (xs : List ℕ) → ltb x (end_of e) ≡ b → FollowsFrom a (e ∷ t) → a ≤ x → x < a + track_len (e ∷ t) → AreIn (e ∷ t) xs → Gap x y xs → x ≤ o → o < y → (end_of e ≤ x → Spot t x o) → Spot (e ∷ t) x o
held_by true a x y o e t xs b f lo hi i g l m r =
    let s : e.start ≡ a = f.1 in
    let h : x < end_of e = ltb-true x (end_of e) b in
    here x y o e t (omega (arith, s, lo)) h (ends_behind x y (end_of e) h (g (end_of e) i.0)) l m
held_by false a x y o e t xs b f lo hi i g l m r =
    let h : end_of e ≤ x = ltb-false x (end_of e) b in
    there x o e t h l (r h)

pub held : (a x y o : ℕ) (t : List Linear) (xs : List ℕ) → FollowsFrom a t → a ≤ x → x < a + track_len t → AreIn t xs → Gap x y xs → x ≤ o → o < y → Spot t x o
held a x y o [] xs f lo hi i g l m = absurd (omega arith)
held a x y o (e ∷ t) xs f lo hi i g l m =
    let s : e.start ≡ a = f.1 in
    held_by (ltb x (end_of e)) a x y o e t xs refl f lo hi i g l m (λ h. held (a + e.len) x y o t xs f.2 (omega (arith, s, h)) (omega (arith, hi)) i.1 g l m)

-- so further blocks lie further on
pub further : (t : List Linear) (x w o : ℕ) → Spot t x o → o ≡ x + w → ((track_place t x).0, (track_place t x).1 + w) ≡ track_place t o
further t x w o s e =
    let b : s.extent.start ≤ x = s.begins in
    let sum : s.extent.at + (x - s.extent.start) + w ≡ s.extent.at + (o - s.extent.start) = omega (arith, b, e) in
    ap (λ p. ((place_by p x).0, (place_by p x).1 + w)) s.at_x ∙ ap (λ n. (s.extent.dev, n)) sum ∙ sym (ap (λ p. place_by p o) s.at_o)
