-- The layouts of footprints, and what it means that two of them clash.
use Rattle.std.proofs.Common.{◌≡◌, ℕ, zero, suc, ◌+◌, ◌-◌, ◌<◌, ◌≤◌, ◌⊎◌, inl, inr, Bool, true, false, ◌&&◌, ◌||◌, max, min, eqb, List, [], ◌∷◌, ◌++◌, length, get_or, map, Option, Some, None, refl, sym, ap, ◌∙◌, ⊎_elim, arith, length-append, ◌↔◌}
use Rattle.std.specs.Prelude.{nat_lt}
use Rattle.std.specs.List.{Contains, list_any}
use Rattle.std.proofs.lemmas.Bool.{cases_Bool, cases_eq, or_right, and_parts, and_from, or_cases, or_left}
use Rattle.std.proofs.lemmas.Bool.Decides.{nat_tests}
use Rattle.std.proofs.lemmas.List.{get_or_append_left, get_or-map, get_or_default}
use Rattle.std.proofs.lemmas.List.Sorted.{list_any-IsPermutation}
use Rattle.std.specs.List.Sorted.{IsPermutation}
use Rattle.page_pool.specs.declared.segs.Seg.{Seg}
use Rattle.page_pool.specs.Places.{PageByte, IsAmong, places_of, shares}
use Rattle.page_pool.proofs.Sharing.{exact}
use Rattle.range_gate.specs.declared.footprint.Reach.{Reach}
use Rattle.range_gate.specs.declared.footprint.Touch.{Touch}
use Rattle.range_gate.specs.declared.footprint.Footprint.{Footprint}
use Rattle.range_gate.specs.Conflicts.{Conflict, ShareBlock, ShareByte, WritesBlock, WritesByte}
use Rattle.range_gate.specs.Prints.{KeptPrint, any_shared, block_shared, byte_shared, chosen, clash, is_chosen, is_same}
use Rattle.range_gate.specs.Gates.{conflict_at}
use Rattle.range_gate.specs.Windows.{clashes}
use Rattle.range_gate.specs.Layout.{AreLayoutsOf, IsLayoutOf}

at_end : (ps : List KeptPrint) (p e : KeptPrint) → get_or (ps ++ p ∷ []) (length ps) e ≡ p
at_end [] p e = refl
at_end (q ∷ ps) p e = at_end ps p e

-- one more layout
pub more : (fs : List Footprint) (ps qs : List KeptPrint) (f : Footprint) (p : KeptPrint) (n : ℕ) → length ps ≡ n → ((i : ℕ) (d : Footprint) (e : KeptPrint) → i < n → IsLayoutOf (get_or fs i d) (get_or ps i e)) → n < length fs →
    f ≡ get_or fs n f → IsLayoutOf f p → qs ≡ ps ++ p ∷ [] →
    record { count : length qs ≡ n + 1; each : (i : ℕ) (d : Footprint) (e : KeptPrint) → i < n + 1 → IsLayoutOf (get_or fs i d) (get_or qs i e) }
more fs ps qs f p n h each l s x q = record {
  count = ap length q ∙ length-append ps (p ∷ []) ∙ omega arith;
  each = λ i d e m.
      ⊎_elim
      (λ (k : i ≡ n).
      let a : get_or fs i d ≡ f = ap (λ j. get_or fs j d) k ∙ get_or_default fs n d f l ∙ sym s in
      let b : get_or qs i e ≡ p = ap (λ v. get_or v i e) q ∙ ap (λ j. get_or (ps ++ p ∷ []) j e) (k ∙ sym h) ∙ at_end ps p e in
      rw (a, b) x)
      (λ (k : i ≡ n → ⊥).
      let b : get_or qs i e ≡ get_or ps i e = ap (λ v. get_or v i e) q ∙ get_or_append_left ps (p ∷ []) e i (omega arith) in
      rw b (each i d e (omega arith)))
      (cases_eq i n);
}

-- ---- segments of touches

abbrev Shared : Bool → Bool → List Touch → List Touch → Type 0
Shared w v ts us = (t : Touch) × (u : Touch) × Contains ts t × Contains us u × (t.writes ≡ w) × (u.writes ≡ v) × (shares t.seg u.seg ≡ true)

abbrev SharedWith : Seg → Bool → List Touch → Type 0
SharedWith s v us = (u : Touch) × Contains us u × (u.writes ≡ v) × (shares s u.seg ≡ true)

pub behind : {X : Type 0} (x y : X) (xs : List X) → Contains xs y → Contains (x ∷ xs) y
behind x y xs h = (suc h.0, (let k = h.1 in omega arith), h.2)

pub first : {X : Type 0} (x : X) (xs : List X) → Contains (x ∷ xs) x
first x xs = (0, omega arith, refl)

pub same_of : (b c : Bool) → is_same b c ≡ true → b ≡ c
same_of true true e = refl
same_of true false e = absurd (cc)
same_of false true e = absurd (cc)
same_of false false e = refl

is_same-self : (b : Bool) → is_same b b ≡ true
is_same-self true = refl
is_same-self false = refl

chosen-yes : (w : Bool) (t : Touch) (ts : List Touch) → is_chosen w t ≡ true → chosen w (t ∷ ts) ≡ t.seg ∷ chosen w ts
chosen-yes w t ts e = rw e refl

chosen-no : (w : Bool) (t : Touch) (ts : List Touch) → is_chosen w t ≡ false → chosen w (t ∷ ts) ≡ chosen w ts
chosen-no w t ts e = rw e refl

one_out : (s : Seg) (v : Bool) (us : List Touch) → list_any (shares s) (chosen v us) ≡ true → SharedWith s v us
one_out s v [] e = absurd (cc)
one_out s v (u ∷ us) e =
    ⊎_elim
    (λ (y : is_chosen v u ≡ true).
    let f : (shares s u.seg || list_any (shares s) (chosen v us)) ≡ true = sym (ap (list_any (shares s)) (chosen-yes v u us y)) ∙ e in
    ⊎_elim
    (λ (a : shares s u.seg ≡ true). (u, first u us, same_of u.writes v (and_parts (is_same u.writes v) _ y).0, a))
    (λ (a : list_any (shares s) (chosen v us) ≡ true). let r = one_out s v us a in (r.0, behind u r.0 us r.1, r.2, r.3))
    (or_cases (shares s u.seg) (list_any (shares s) (chosen v us)) f))
    (λ (n : is_chosen v u ≡ false).
    let r = one_out s v us (sym (ap (list_any (shares s)) (chosen-no v u us n)) ∙ e) in (r.0, behind u r.0 us r.1, r.2, r.3))
    (cases_Bool (is_chosen v u))

out : (w v : Bool) (ts us : List Touch) → any_shared (chosen w ts) (chosen v us) ≡ true → Shared w v ts us
out w v [] us e = absurd (cc)
out w v (t ∷ ts) us e =
    ⊎_elim
    (λ (y : is_chosen w t ≡ true).
    let f : (list_any (shares t.seg) (chosen v us) || any_shared (chosen w ts) (chosen v us)) ≡ true = sym (ap (λ x. any_shared x (chosen v us)) (chosen-yes w t ts y)) ∙ e in
    ⊎_elim
    (λ (a : list_any (shares t.seg) (chosen v us) ≡ true).
    let r = one_out t.seg v us a in (t, r.0, first t ts, r.1, same_of t.writes w (and_parts (is_same t.writes w) _ y).0, r.2, r.3))
    (λ (a : any_shared (chosen w ts) (chosen v us) ≡ true). let r = out w v ts us a in (r.0, r.1, behind t r.0 ts r.2, r.3, r.4, r.5, r.6))
    (or_cases (list_any (shares t.seg) (chosen v us)) (any_shared (chosen w ts) (chosen v us)) f))
    (λ (n : is_chosen w t ≡ false).
    let r = out w v ts us (sym (ap (λ x. any_shared x (chosen v us)) (chosen-no w t ts n)) ∙ e) in (r.0, r.1, behind t r.0 ts r.2, r.3, r.4, r.5, r.6))
    (cases_Bool (is_chosen w t))

-- a segment that shares a byte has one
shares-some : (p q a m b n : ℕ) → (eqb p q && (nat_lt (max a b - a) m && nat_lt (max a b - b) n)) ≡ true → (nat_lt 0 m ≡ true) × (nat_lt 0 n ≡ true)
shares-some p q a m b n e = (grind (arith, nat_tests), grind (arith, nat_tests))

is_chosen-by : (w : Bool) (t : Touch) → t.writes ≡ w → nat_lt 0 t.seg.len ≡ true → is_chosen w t ≡ true
is_chosen-by w t e f = rw (e, is_same-self w) f

one_in : (s : Seg) (v : Bool) (us : List Touch) (u : Touch) (k : ℕ) → k < length us → get_or us k u ≡ u → u.writes ≡ v → shares s u.seg ≡ true → nat_lt 0 u.seg.len ≡ true → list_any (shares s) (chosen v us) ≡ true
one_in s v [] u k l g e h n = absurd (omega arith)
one_in s v (x ∷ us) u zero l g e h n =
    let y : is_chosen v x ≡ true = is_chosen-by v x (ap (λ (z : Touch). z.writes) g ∙ e) (ap (λ (z : Touch). nat_lt 0 z.seg.len) g ∙ n) in
    ap (list_any (shares s)) (chosen-yes v x us y) ∙ or_left (shares s x.seg) _ (ap (λ (z : Touch). shares s z.seg) g ∙ h)
one_in s v (x ∷ us) u (suc k) l g e h n =
    let r = one_in s v us u k (omega arith) g e h n in
    ⊎_elim
    (λ (y : is_chosen v x ≡ true). ap (list_any (shares s)) (chosen-yes v x us y) ∙ or_right (shares s x.seg) _ r)
    (λ (n : is_chosen v x ≡ false). ap (list_any (shares s)) (chosen-no v x us n) ∙ r)
    (cases_Bool (is_chosen v x))

into : (w v : Bool) (ts us : List Touch) (t u : Touch) (k : ℕ) → k < length ts → get_or ts k t ≡ t → t.writes ≡ w → nat_lt 0 t.seg.len ≡ true → list_any (shares t.seg) (chosen v us) ≡ true → any_shared (chosen w ts) (chosen v us) ≡ true
into w v [] us t u k l g e n h = absurd (omega arith)
into w v (x ∷ ts) us t u zero l g e n h =
    let y : is_chosen w x ≡ true = is_chosen-by w x (ap (λ (z : Touch). z.writes) g ∙ e) (ap (λ (z : Touch). nat_lt 0 z.seg.len) g ∙ n) in
    ap (λ z. any_shared z (chosen v us)) (chosen-yes w x ts y) ∙ or_left (list_any (shares x.seg) (chosen v us)) _ (ap (λ (z : Touch). list_any (shares z.seg) (chosen v us)) g ∙ h)
into w v (x ∷ ts) us t u (suc k) l g e n h =
    let r = into w v ts us t u k (omega arith) g e n h in
    ⊎_elim
    (λ (y : is_chosen w x ≡ true). ap (λ z. any_shared z (chosen v us)) (chosen-yes w x ts y) ∙ or_right (list_any (shares x.seg) (chosen v us)) _ r)
    (λ (n : is_chosen w x ≡ false). ap (λ z. any_shared z (chosen v us)) (chosen-no w x ts n) ∙ r)
    (cases_Bool (is_chosen w x))

back : (w v : Bool) (ts us : List Touch) → Shared w v ts us → any_shared (chosen w ts) (chosen v us) ≡ true
back w v ts us h =
    let t = h.0 in
    let u = h.1 in
    let s = shares-some t.seg.page u.seg.page t.seg.off t.seg.len u.seg.off u.seg.len h.6 in
    into w v ts us t u h.2.0 h.2.1 h.2.2 h.4 s.0 (one_in t.seg v us u h.3.0 h.3.1 h.3.2 h.5 h.6 s.1)

-- ---- the order of the segments makes no difference

any-congr : (f g : Seg → Bool) (ss : List Seg) → ((s : Seg) → f s ≡ g s) → list_any f ss ≡ list_any g ss
any-congr f g [] e = refl
any-congr f g (s ∷ ss) e = ap (λ b. b || list_any f ss) (e s) ∙ ap (λ b. g s || b) (any-congr f g ss e)

permuted : (ss xs ts ys : List Seg) → IsPermutation ss xs → IsPermutation ts ys → any_shared xs ys ≡ any_shared ss ts
permuted ss xs ts ys p q =
    sym (list_any-IsPermutation (λ s. list_any (shares s) ys) ss xs p) ∙ sym (any-congr (λ s. list_any (shares s) ts) (λ s. list_any (shares s) ys) ss (λ s. list_any-IsPermutation (shares s) ts ys q))

-- ---- blocks

meet : (a m b n : ℕ) → nat_lt (max a b) (min (a + m) (b + n)) ≡ true → (a ≤ max a b) × (max a b < a + m) × (b ≤ max a b) × (max a b < b + n)
meet a m b n e = (grind (arith, nat_tests), grind (arith, nat_tests), grind (arith, nat_tests), grind (arith, nat_tests))

met : (a m b n v : ℕ) → a ≤ v → v < a + m → b ≤ v → v < b + n → nat_lt (max a b) (min (a + m) (b + n)) ≡ true
met a m b n v h k l o = grind (arith, nat_tests)

block_out : (x y : Option Reach) (f g : Footprint) → f.blocks ≡ x → g.blocks ≡ y → block_shared x y ≡ true → ShareBlock f g
block_out None y f g d e h = absurd (cc)
block_out (Some r) None f g d e h = absurd (cc)
block_out (Some r) (Some s) f g d e h =
    let p = and_parts (r.writes || s.writes) _ h in
    let m = meet r.first r.count s.first s.count p.1 in (
      max r.first s.first,
      (r, d, m.0, m.1),
      (s, e, m.2, m.3),
      ⊎_elim (λ (w : r.writes ≡ true). inl (r, d, m.0, m.1, w)) (λ (w : s.writes ≡ true). inr (s, e, m.2, m.3, w)) (or_cases r.writes s.writes p.0),
    )

block_in : (f g : Footprint) → ShareBlock f g → block_shared f.blocks g.blocks ≡ true
block_in f g h =
    let r = h.1.0 in
    let s = h.2.0 in
    let fb : f.blocks ≡ Some r = h.1.1 in
    let gb : g.blocks ≡ Some s = h.2.1 in
    let w : (r.writes || s.writes) ≡ true =
    ⊎_elim
    (λ (x : WritesBlock f h.0). let e : f.blocks ≡ Some x.0 = x.1 in let k : x.0.writes ≡ true = x.4 in let o : x.0 ≡ r = cc in or_left r.writes s.writes (sym (ap (λ (z : Reach). z.writes) o) ∙ k))
    (λ (x : WritesBlock g h.0). let e : g.blocks ≡ Some x.0 = x.1 in let k : x.0.writes ≡ true = x.4 in let o : x.0 ≡ s = cc in or_right r.writes s.writes (sym (ap (λ (z : Reach). z.writes) o) ∙ k))
    h.3 in
    ap (λ z. block_shared z g.blocks) fb ∙ ap (block_shared (Some r)) gb ∙ and_from (r.writes || s.writes) _ w (met r.first r.count s.first s.count h.0 h.1.2 h.1.3 h.2.2 h.2.3)

-- ---- bytes

from_shared : (w v : Bool) (f g : Footprint) → (w || v) ≡ true → Shared w v f.bytes g.bytes → ShareByte f g
from_shared w v f g e h =
    let t = h.0 in
    let u = h.1 in
    let o = (exact t.seg u.seg (shares t.seg u.seg) refl).0 h.6 in (
      o.0,
      (t, h.2, o.1),
      (u, h.3, o.2),
      ⊎_elim (λ (x : w ≡ true). inl (t, h.2, h.4 ∙ x, o.1)) (λ (x : v ≡ true). inr (u, h.3, h.5 ∙ x, o.2)) (or_cases w v e),
    )

overlapping : (s t : Seg) (b : PageByte) → IsAmong (places_of s) b → IsAmong (places_of t) b → shares s t ≡ true
overlapping s t b h k = (exact s t (shares s t) refl).1 (b, h, k)

abbrev Bytes : Footprint → Footprint → Bool
Bytes f g = any_shared (chosen true f.bytes) (chosen true g.bytes) || (any_shared (chosen true f.bytes) (chosen false g.bytes) || any_shared (chosen false f.bytes) (chosen true g.bytes))

bytes_out : (f g : Footprint) → Bytes f g ≡ true → ShareByte f g
bytes_out f g e =
    ⊎_elim
    (λ (a : any_shared (chosen true f.bytes) (chosen true g.bytes) ≡ true). from_shared true true f g refl (out true true f.bytes g.bytes a))
    (λ (a : (any_shared (chosen true f.bytes) (chosen false g.bytes) || any_shared (chosen false f.bytes) (chosen true g.bytes)) ≡ true).
    ⊎_elim
    (λ (b : any_shared (chosen true f.bytes) (chosen false g.bytes) ≡ true). from_shared true false f g refl (out true false f.bytes g.bytes b))
    (λ (b : any_shared (chosen false f.bytes) (chosen true g.bytes) ≡ true). from_shared false true f g refl (out false true f.bytes g.bytes b))
    (or_cases _ _ a))
    (or_cases _ _ e)

bytes_in : (f g : Footprint) → ShareByte f g → Bytes f g ≡ true
bytes_in f g h =
    let b = h.0 in
    let t = h.1.0 in
    let u = h.2.0 in
    ⊎_elim
    (λ (x : WritesByte f b).
    let s = overlapping x.0.seg u.seg b x.3 h.2.2 in
    ⊎_elim
    (λ (w : u.writes ≡ true). or_left _ _ (back true true f.bytes g.bytes (x.0, u, x.1, h.2.1, x.2, w, s)))
    (λ (w : u.writes ≡ false). or_right (any_shared (chosen true f.bytes) (chosen true g.bytes)) _ (or_left _ _ (back true false f.bytes g.bytes (x.0, u, x.1, h.2.1, x.2, w, s))))
    (cases_Bool u.writes))
    (λ (x : WritesByte g b).
    let s = overlapping t.seg x.0.seg b h.1.2 x.3 in
    ⊎_elim
    (λ (w : t.writes ≡ true). or_left _ _ (back true true f.bytes g.bytes (t, x.0, h.1.1, x.1, w, x.2, s)))
    (λ (w : t.writes ≡ false). or_right (any_shared (chosen true f.bytes) (chosen true g.bytes)) _ (or_right (any_shared (chosen true f.bytes) (chosen false g.bytes)) _ (back false true f.bytes g.bytes (t, x.0, h.1.1, x.1, w, x.2, s))))
    (cases_Bool t.writes))
    h.3

-- ---- all of it

bytes-layout : (f g : Footprint) (p q : KeptPrint) → IsLayoutOf f p → IsLayoutOf g q → byte_shared p q ≡ Bytes f g
bytes-layout f g p q x y =
    let a = permuted (chosen true f.bytes) p.writes (chosen true g.bytes) q.writes x.writes y.writes in
    let b = permuted (chosen true f.bytes) p.writes (chosen false g.bytes) q.reads x.writes y.reads in
    let c = permuted (chosen false f.bytes) p.reads (chosen true g.bytes) q.writes x.reads y.writes in
    ap (λ z. z || (any_shared p.writes q.reads || any_shared p.reads q.writes)) a
    ∙ ap (λ z. any_shared (chosen true f.bytes) (chosen true g.bytes) || (z || any_shared p.reads q.writes)) b
    ∙ ap (λ z. any_shared (chosen true f.bytes) (chosen true g.bytes) || (any_shared (chosen true f.bytes) (chosen false g.bytes) || z)) c

abbrev Test : Footprint → Footprint → Bool
Test f g = (f.alone || g.alone) || (block_shared f.blocks g.blocks || Bytes f g)

clash-layout : (f g : Footprint) (p q : KeptPrint) → IsLayoutOf f p → IsLayoutOf g q → clash p q ≡ Test f g
clash-layout f g p q x y =
    ap (λ z. (z || q.alone) || (block_shared p.blocks q.blocks || byte_shared p q)) x.alone
    ∙ ap (λ z. (f.alone || z) || (block_shared p.blocks q.blocks || byte_shared p q)) y.alone
    ∙ ap (λ z. (f.alone || g.alone) || (block_shared z q.blocks || byte_shared p q)) x.blocks
    ∙ ap (λ z. (f.alone || g.alone) || (block_shared f.blocks z || byte_shared p q)) y.blocks
    ∙ ap (λ z. (f.alone || g.alone) || (block_shared f.blocks g.blocks || z)) (bytes-layout f g p q x y)

test_out : (f g : Footprint) → Test f g ≡ true → Conflict f g
test_out f g e =
    ⊎_elim
    (λ (a : (f.alone || g.alone) ≡ true). ⊎_elim (λ (x : f.alone ≡ true). inl x) (λ (x : g.alone ≡ true). inr (inl x)) (or_cases f.alone g.alone a))
    (λ (a : (block_shared f.blocks g.blocks || Bytes f g) ≡ true).
    ⊎_elim
    (λ (x : block_shared f.blocks g.blocks ≡ true). inr (inr (inl (block_out f.blocks g.blocks f g refl refl x))))
    (λ (x : Bytes f g ≡ true). inr (inr (inr (bytes_out f g x))))
    (or_cases (block_shared f.blocks g.blocks) (Bytes f g) a))
    (or_cases (f.alone || g.alone) _ e)

test_in : (f g : Footprint) → Conflict f g → Test f g ≡ true
test_in f g (inl x) = or_left (f.alone || g.alone) _ (or_left f.alone g.alone x)
test_in f g (inr (inl x)) = or_left (f.alone || g.alone) _ (or_right f.alone g.alone x)
test_in f g (inr (inr (inl x))) = or_right (f.alone || g.alone) _ (or_left (block_shared f.blocks g.blocks) (Bytes f g) (block_in f g x))
test_in f g (inr (inr (inr x))) = or_right (f.alone || g.alone) _ (or_right (block_shared f.blocks g.blocks) (Bytes f g) (bytes_in f g x))

pub clash_means : (f g : Footprint) (p q : KeptPrint) → IsLayoutOf f p → IsLayoutOf g q → (clash p q ≡ true) ↔ Conflict f g
clash_means f g p q x y = let e = clash-layout f g p q x y in (λ h. test_out f g (sym e ∙ h), λ h. e ∙ test_in f g h)

no_print : KeptPrint
no_print = record { alone = false; blocks = None; reads = []; writes = [] }

at_both : (ps : List KeptPrint) (i j : ℕ) → i < length ps → j < length ps → conflict_at (clashes ps) i j ≡ clash (get_or ps i no_print) (get_or ps j no_print)
at_both ps i j l m =
    ap (λ row. get_or row j false) (get_or-map (λ p. map (clash p) ps) ps i no_print [] l) ∙ get_or-map (clash (get_or ps i no_print)) ps j no_print false m

-- the table of a gate says which footprints conflict
pub conflicts : (fs : List Footprint) (ps : List KeptPrint) → AreLayoutsOf fs ps → (i j : ℕ) (d : Footprint) → i < length fs → j < length fs → (conflict_at (clashes ps) i j ≡ true) ↔ Conflict (get_or fs i d) (get_or fs j d)
conflicts fs ps a i j d l m =
    let n = a.count in
    let e = at_both ps i j (omega arith) (omega arith) in
    let k = clash_means (get_or fs i d) (get_or fs j d) (get_or ps i no_print) (get_or ps j no_print) (a.each i d no_print l) (a.each j d no_print m) in
    (λ h. k.0 (sym e ∙ h), λ h. e ∙ k.1 h)
