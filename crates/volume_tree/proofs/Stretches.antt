-- The stripes from one cut on place their blocks as the tree does.
use Rattle.std.proofs.Common.{ℕ, zero, suc, ◌≡◌, ◌+◌, ◌-◌, ◌*◌, ◌/◌, ◌%◌, ◌^◌, ◌<◌, ◌≤◌, ◌⊎◌, inl, inr, not, eqb, ltb, cond, Bool, true, false, All, List, [], ◌∷◌, length, find, sum_by, Some, refl, sym, ap, subst, ◌∙◌, arith}
use Rattle.std.specs.List.{list_any}
use Rattle.std.proofs.Math.Nat.{mul-le-mul_right, zero-mod}
use Rattle.std.proofs.lemmas.Bool.Decides.{nat_tests}
use Rattle.std.proofs.lemmas.Nat.{mod-mul-add, div-add-mod', mul-le}
use Rattle.std.proofs.lemmas.List.{length-map}
use Rattle.std.proofs.lemmas.List.Elements.{All-cons, All-nil}
use Rattle.std.proofs.lemmas.List.Sums.{sum_by-cons}
use Rattle.std.proofs.lemmas.Bool.{ltb-true, ltb-false}
use Rattle.linear_volume.specs.declared.Linear.{Linear}
use Rattle.volume_table.specs.declared.entry.Entry.{Entry}
use Rattle.volume_table.specs.Entries.{IsInRange, IsLength, entry_len, entry_place, entry_start, is_held}
use Rattle.volume_table.specs.Places.{place_by, place_in, volume_len}
use Rattle.volume_tree.specs.Tracks.{FollowsFrom, ends, track_len}
use Rattle.volume_tree.specs.Trees.{AreTracks, DoFit, EntriesFollow, LieAsTree, expanded, has_bad_length, is_other_length, is_unaligned, leg_from, stripe_between, stripes, tree_place}
use Rattle.volume_tree.proofs.Gathering.{AllIn, AreIn, Ascends, Each, Gathered, IsCut, IsIn, all_ends_are, all_gather, all_in, or_first, or_second}
use Rattle.volume_tree.proofs.Placing.{same_place}
use Rattle.volume_tree.proofs.Following.{together as sum}
use Rattle.small_laws.proofs.Tests.{same_number}

-- the last end is the number of all blocks
track_end : (a : ℕ) (t : List Linear) (xs : List ℕ) → FollowsFrom a t → 0 < track_len t → AreIn t xs → IsIn (a + track_len t) xs
track_end a [] xs f h i = absurd (omega arith)
track_end a (e ∷ []) xs f h i = let s : e.start ≡ a = f.1 in subst (λ k. IsIn k xs) (omega (arith, s)) i.0
track_end a (e ∷ g ∷ t) xs f h i =
    let n = f.2.0.len.0 in
    let r = track_end (a + e.len) (g ∷ t) xs f.2 (omega (arith, n)) i.1 in
    subst (λ k. IsIn k xs) (sum a e.len (track_len (g ∷ t))) r

-- among ascending numbers all others are at least the first
not_before : (x y z : ℕ) (ys : List ℕ) → Ascends x (y ∷ ys) → IsIn z (y ∷ ys) → y ≤ z
not_before x y z ys s (inl e) = omega (arith, e)
not_before x y z [] s (inr h) = absurd h
not_before x y z (w ∷ ys) s (inr h) = let r = not_before y w z ys s.1 h in let k = s.1.0 in omega (arith, r, k)

spans : (x w n : ℕ) → x * n + w * n ≡ (x + w) * n
spans x w n = omega arith

between : (x y n : ℕ) → x < y → x * n + (y - x) * n ≡ y * n
between x y n h = spans x (y - x) n ∙ ap (λ k. k * n) (omega (arith, h))

-- what is kept on the way along the ends: this far everything was looked at, and these numbers are left
pub record Along (m c x : ℕ) (rest all : List ℕ) : Type 0 where
  pub ascends : Ascends x rest
  pub cut : Each (IsCut m c) rest
  pub whole : x % c ≡ 0
  pub last : IsIn m rest
  pub others : (z : ℕ) → IsIn z all → (z ≤ x) ⊎ IsIn z rest

still : (x y z : ℕ) (ys : List ℕ) → x < y → (z ≤ x) ⊎ IsIn z (y ∷ ys) → (z ≤ y) ⊎ IsIn z ys
still x y z ys h (inl k) = inl (omega arith)
still x y z ys h (inr (inl e)) = inl (omega (arith, e))
still x y z ys h (inr (inr i)) = inr i

gap_by : (x y z : ℕ) (ys : List ℕ) → Ascends x (y ∷ ys) → (z ≤ x) ⊎ IsIn z (y ∷ ys) → (z ≤ x) ⊎ (y ≤ z)
gap_by x y z ys s (inl k) = inl k
gap_by x y z ys s (inr i) = inr (not_before x y z ys s i)

not_last : (m y : ℕ) (ys : List ℕ) → (m ≡ y → ⊥) → (m ≡ y) ⊎ IsIn m ys → IsIn m ys
not_last m y ys h (inl e) = absurd (h e)
not_last m y ys h (inr i) = i

on : (m c x y : ℕ) (ys all : List ℕ) → Along m c x (y ∷ ys) all → (m ≡ y → ⊥) → Along m c y ys all
on m c x y ys all a h = record {
  ascends = a.ascends.1;
  cut = a.cut.1;
  whole = a.cut.0.1;
  last = not_last m y ys h a.last;
  others = λ z i. still x y z ys a.ascends.0 (a.others z i);
}

entry_yes : (v : ℕ) (e : Entry) (es : List Entry) → entry_start e ≤ v → v < entry_start e + entry_len e → place_in (e ∷ es) v ≡ entry_place e v
entry_yes v e es a b =
    let p : is_held v e ≡ true = grind (arith, nat_tests) in
    ap (λ c. place_by (cond c (Some e) (find (is_held v) es)) v) p

entry_no : (v : ℕ) (e : Entry) (es : List Entry) → entry_start e + entry_len e ≤ v → place_in (e ∷ es) v ≡ place_in es v
entry_no v e es a =
    let p : is_held v e ≡ false = grind (arith, nat_tests) in
    ap (λ c. place_by (cond c (Some e) (find (is_held v) es)) v) p

-- the same inner volumes all along
pub record Tree (c n m : ℕ) (ts : List (List Linear)) (all : List ℕ) : Type 0 where
  pub chunk : 0 < c
  pub some : 0 < n
  pub count : length ts ≡ n
  pub tracks : AreTracks ts
  pub among : AllIn ts all
  pub long : list_any (is_other_length m) ts ≡ false

place_step : (b : Bool) (start c n m x y v : ℕ) (ts : List (List Linear)) (ys all : List ℕ) → Tree c n m ts all → Along m c x (y ∷ ys) all → start + x * n ≤ v → v < start + m * n → ltb v (start + y * n) ≡ b
    → (Along m c y ys all → start + y * n ≤ v → place_in (stripes start c ts y ys) v ≡ tree_place start c ts v) → place_in (stripes start c ts x (y ∷ ys)) v ≡ tree_place start c ts v
place_step true start c n m x y v ts ys all t a lo hi b r =
    let up : x < y = a.ascends.0 in
    let few : y ≤ m = a.cut.0.0 in
    let h : v < start + y * n = ltb-true v (start + y * n) b in
    let first : start + x * length ts ≡ start + x * n = ap (λ k. start + x * k) t.count in
    let second : (y - x) * length ts ≡ (y - x) * n = ap (λ k. (y - x) * k) t.count in
    let all_of = between x y n up in
    let lower : start + x * length ts ≤ v = omega (arith, first, lo) in
    let upper : v < start + x * length ts + (y - x) * length ts = omega (arith, first, second, all_of, h) in
    entry_yes v (stripe_between start c ts x y) (stripes start c ts y ys) lower upper
    ∙ same_place start c n m x y v ts all t.chunk t.some t.count t.tracks t.among t.long a.whole a.cut.0.1 (λ z i. gap_by x y z ys a.ascends (a.others z i)) (omega (arith, up, few)) lo h
place_step false start c n m x y v ts ys all t a lo hi b r =
    let up : x < y = a.ascends.0 in
    let h : start + y * n ≤ v = ltb-false v (start + y * n) b in
    let first : start + x * length ts ≡ start + x * n = ap (λ k. start + x * k) t.count in
    let second : (y - x) * length ts ≡ (y - x) * n = ap (λ k. (y - x) * k) t.count in
    let all_of = between x y n up in
    let upper : start + x * length ts + (y - x) * length ts ≤ v = omega (arith, first, second, all_of, h) in
    let other : m ≡ y → ⊥ = λ e. let k : m * n ≡ y * n = ap (λ z. z * n) e in absurd (omega (arith, k, h, hi)) in
    entry_no v (stripe_between start c ts x y) (stripes start c ts y ys) upper ∙ r (on m c x y ys all a other) h

-- each block lies where the tree says
pub places : (start c n m x v : ℕ) (ts : List (List Linear)) (rest all : List ℕ) → Tree c n m ts all → Along m c x rest all → start + x * n ≤ v → v < start + m * n → place_in (stripes start c ts x rest) v ≡ tree_place start c ts v
places start c n m x v ts [] all t a lo hi = absurd a.last
places start c n m x v ts (y ∷ ys) all t a lo hi = place_step (ltb v (start + y * n)) start c n m x y v ts ys all t a lo hi refl (λ b h. places start c n m y v ts ys all t b h hi)

-- the numbers of blocks fit
pub do_fit : (start n m c x : ℕ) (rest : List ℕ) → Ascends x rest → Each (IsCut m c) rest → start + m * n < 2 ^ 64 → DoFit start n x rest
do_fit start n m c x [] s e h = tt
do_fit start n m c x (y ∷ ys) s e h =
    let few : y ≤ m = e.0.0 in
    let p : y * n ≤ m * n = mul-le-mul_right n few in
    (s.0, omega (arith, p, h), do_fit start n m c y ys s.1 e.1 h)

-- the entries follow one another
pub follow : (start c x : ℕ) (ts : List (List Linear)) (rest : List ℕ) → Ascends x rest → EntriesFollow (start + x * length ts) (stripes start c ts x rest)
follow start c x ts [] s = tt
follow start c x ts (y ∷ ys) s =
    let next : start + x * length ts + (y - x) * length ts ≡ start + y * length ts = omega (arith, between x y (length ts) s.0) in
    (refl, subst (λ k. EntriesFollow k (stripes start c ts y ys)) (sym next) (follow start c y ts ys s.1))

-- together they have all blocks
pub blocks : (start c m x : ℕ) (ts : List (List Linear)) (rest : List ℕ) → Ascends x rest → Each (IsCut m c) rest → IsIn m rest → sum_by entry_len (stripes start c ts x rest) + x * length ts ≡ m * length ts
blocks start c m x ts [] s e i = absurd i
blocks start c m x ts (y ∷ []) s e (inl k) = omega (arith, between x y (length ts) s.0, ap (λ z. z * length ts) k)
blocks start c m x ts (y ∷ []) s e (inr h) = absurd h
blocks start c m x ts (y ∷ z ∷ zs) s e i =
    let up : y < z = s.1.0 in
    let few : z ≤ m = e.1.0.0 in
    let other : m ≡ y → ⊥ = λ k. absurd (omega (arith, k, up, few)) in
    let r = blocks start c m y ts (z ∷ zs) s.1 e.1 (not_last m y (z ∷ zs) other i) in
    omega (arith, sum_by-cons entry_len (stripe_between start c ts x y) (stripes start c ts y (z ∷ zs)), r, between x y (length ts) s.0)

-- and each is in its ranges
pub ranges : (start c n m x : ℕ) (ts : List (List Linear)) (rest : List ℕ) → Ascends x rest → Each (IsCut m c) rest → 0 < c → length ts ≡ n → 0 < n → n ≤ 8 → m * n ≤ 1048576 → All IsInRange (stripes start c ts x rest)
ranges start c n m x ts [] s e hc l hn h8 hm = All-nil IsInRange
ranges start c n m x ts (y ∷ ys) s e hc l hn h8 hm =
    let up : x < y = s.0 in
    let few : y ≤ m = e.0.0 in
    let legs = length-map ts (leg_from x) in
    let all_of = between x y n up in
    let p : y * n ≤ m * n = mul-le-mul_right n few in
    let share : (y - x) * length ts ≡ (y - x) * n = ap (λ k. (y - x) * k) l in
    let low : 1 * 1 ≤ (y - x) * n = mul-le 1 1 (y - x) n (omega (arith, up)) (omega (arith, hn)) in
    All-cons IsInRange (stripe_between start c ts x y) (stripes start c ts y ys)
    ((omega (arith, share, low), omega (arith, share, all_of, p, hm)), hc, omega (arith, legs, l, hn), omega (arith, legs, l, h8))
    (ranges start c n m y ts ys s.1 e.1 hc l hn h8 hm)

pub count : (start c x : ℕ) (ts : List (List Linear)) (rest : List ℕ) → length (stripes start c ts x rest) ≡ length rest
count start c x ts [] = refl
count start c x ts (y ∷ ys) = ap suc (count start c y ts ys)

-- what holds where nothing was refused
pub record Built (c len : ℕ) (ts : List (List Linear)) : Type 0 where
  pub m : ℕ
  pub tree : Tree c (length ts) m ts (ends ts)
  pub along : Along m c 0 (ends ts) (ends ts)
  pub sum : m * length ts ≡ len

whole_len : (len c n : ℕ) → 0 < n → not (eqb (len % (c * n)) 0) ≡ false → len / n * n ≡ len
whole_len len c n hn h =
    let z : len % (c * n) ≡ 0 = same_number (len % (c * n)) 0 h in
    let e : len / (c * n) * (c * n) + len % (c * n) ≡ len = div-add-mod' len (c * n) in
    let f : len ≡ len / (c * n) * c * n + 0 = omega (arith, e, z) in
    let r : len % n ≡ 0 = ap (λ k. k % n) f ∙ mod-mul-add (len / (c * n) * c) n 0 hn in
    let g : len / n * n + len % n ≡ len = div-add-mod' len n in
    omega (arith, g, r)

some_blocks : (m n : ℕ) → 1 ≤ m * n → 0 < m
some_blocks zero n h = absurd (omega arith)
some_blocks (suc m) n h = omega arith

last_in : (m : ℕ) (ts : List (List Linear)) (xs : List ℕ) → 0 < length ts → 0 < m → AreTracks ts → AllIn ts xs → list_any (is_other_length m) ts ≡ false → IsIn m xs
last_in m [] xs h p f i l = absurd (omega arith)
last_in m (t ∷ ts) xs h p f i l =
    let e : track_len t ≡ m = same_number (track_len t) m (or_first (is_other_length m t) (list_any (is_other_length m) ts) l) in
    subst (λ k. IsIn k xs) (omega (arith, e)) (track_end 0 t xs f.0 (omega (arith, e, p)) i.0)

pub built : (c len : ℕ) (ts : List (List Linear)) → 1 ≤ c → 1 ≤ length ts → 1 ≤ len → AreTracks ts → has_bad_length len c ts ≡ false → is_unaligned c ts ≡ false → Built c len ts
built c len ts hc hn hl f b u =
    let first = or_first (not (eqb (len % (c * length ts)) 0)) (list_any (is_other_length (len / length ts)) ts) b in
    let long = or_second (not (eqb (len % (c * length ts)) 0)) (list_any (is_other_length (len / length ts)) ts) b in
    let sum : len / length ts * length ts ≡ len = whole_len len c (length ts) (omega (arith, hn)) first in
    let some : 0 < len / length ts = some_blocks (len / length ts) (length ts) (omega (arith, sum, hl)) in
    let g : Gathered (IsCut (len / length ts) c) (ends ts) = all_gather (IsCut (len / length ts) c) ts [] (all_ends_are (len / length ts) c ts f long u) (record { ascends = tt; each = tt }) in
    record {
      m = len / length ts;
      tree = record { chunk = omega (arith, hc); some = omega (arith, hn); count = refl; tracks = f; among = all_in ts []; long = long };
      along = record { ascends = g.ascends; cut = g.each; whole = zero-mod c; last = last_in (len / length ts) ts (ends ts) (omega (arith, hn)) some f (all_in ts []) long; others = λ z i. inr i };
      sum = sum;
    }

pub all_fit : (start c len : ℕ) (ts : List (List Linear)) → Built c len ts → start + len < 2 ^ 64 → DoFit start (length ts) 0 (ends ts)
all_fit start c len ts b h = let s = b.sum in do_fit start (length ts) b.m c 0 (ends ts) b.along.ascends b.along.cut (omega (arith, s, h))

pub all_places : (start c len v : ℕ) (ts : List (List Linear)) → Built c len ts → start ≤ v → v < start + len → place_in (expanded start c ts) v ≡ tree_place start c ts v
all_places start c len v ts b lo hi = let s = b.sum in places start c (length ts) b.m 0 v ts (ends ts) (ends ts) b.tree b.along (omega (arith, lo)) (omega (arith, s, hi))

pub all_follow : (start c len : ℕ) (ts : List (List Linear)) → Built c len ts → EntriesFollow start (expanded start c ts)
all_follow start c len ts b = subst (λ k. EntriesFollow k (expanded start c ts)) (omega arith) (follow start c 0 ts (ends ts) b.along.ascends)

pub all_blocks : (start c len : ℕ) (ts : List (List Linear)) → Built c len ts → volume_len (expanded start c ts) ≡ len
all_blocks start c len ts b =
    let s = b.sum in
    let r = blocks start c b.m 0 ts (ends ts) b.along.ascends b.along.cut b.along.last in
    omega (arith, s, r)

pub all_ranges : (start c len : ℕ) (ts : List (List Linear)) → Built c len ts → length ts ≤ 8 → len ≤ 1048576 → All IsInRange (expanded start c ts)
all_ranges start c len ts b h8 hl = let s = b.sum in ranges start c (length ts) b.m 0 ts (ends ts) b.along.ascends b.along.cut b.tree.chunk refl b.tree.some h8 (omega (arith, s, hl))

-- all that is said of the entries
pub says : (start c len n : ℕ) (ts : List (List Linear)) (xs : List ℕ) (list : List Entry) → length ts ≡ n → 1 ≤ c → 1 ≤ n → n ≤ 8 → IsLength len → AreTracks ts → has_bad_length len c ts ≡ false → is_unaligned c ts ≡ false
    → xs ≡ ends ts → length xs ≤ 16 → list ≡ stripes start c ts 0 xs → LieAsTree start len c ts list
says start c len n ts xs list l hc hn h8 hl f b u e k s =
    let r = built c len ts hc (omega (arith, l, hn)) hl.0 f b u in
    let same : expanded start c ts ≡ list = sym (s ∙ ap (stripes start c ts 0) e) in
    subst (LieAsTree start len c ts) same (record {
      places = λ v lo hi. all_places start c len v ts r lo hi;
      follow = all_follow start c len ts r;
      blocks = all_blocks start c len ts r;
      ranges = all_ranges start c len ts r (omega (arith, l, h8)) hl.1;
      few = omega (arith, count start c 0 ts (ends ts), ap length e, k);
    })
