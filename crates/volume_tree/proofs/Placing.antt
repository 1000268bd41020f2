-- Cut at all ends, the stripes place each block as the tree does.
use Rattle.std.proofs.Common.{ℕ, zero, suc, ◌≡◌, ◌+◌, ◌-◌, ◌*◌, ◌/◌, ◌%◌, ◌<◌, ◌≤◌, false, List, [], ◌∷◌, length, get_or, map, refl, sym, ap, subst, ◌∙◌, arith}
use Rattle.std.specs.List.{list_any}
use Rattle.std.proofs.Math.Nat.{mul-le-mul_right, mul_comm}
use Rattle.std.proofs.lemmas.Nat.{div-mul-add, mod-mul-add, mul-add-lt, div_below, mod_below, div-add-mod'}
use Rattle.std.proofs.lemmas.List.{length-map}
use Rattle.linear_volume.specs.declared.Linear.{Linear}
use Rattle.stripe_volume.specs.Stripes.{stripe_place}
use Rattle.stripe_volume.specs.declared.legs.Leg.{Leg}
use Rattle.volume_table.specs.Entries.{entry_place}
use Rattle.volume_tree.specs.Tracks.{FollowsFrom, track, track_len, track_place}
use Rattle.volume_tree.specs.Trees.{AreTracks, is_other_length, leg_from, stripe_between, tree_place}
use Rattle.volume_tree.proofs.Gathering.{AllIn, AreIn, or_first, or_second}
use Rattle.volume_tree.proofs.Spots.{Gap, further, held}
use Rattle.volume_tree.proofs.Following.{together}
use Rattle.small_laws.proofs.Tests.{same_number}

-- block u, n inner volumes, c blocks in a chunk: how many chunks of u's inner volume come before u's, its turn, and its place in its chunk
record Parts (c n a u : ℕ) : Type 0 where
  row : ℕ
  turn : ℕ
  rest : ℕ
  is_turn : turn < n
  is_rest : rest < c
  whole : u ≡ ((a + row) * n + turn) * c + rest

not_above : (x y : ℕ) → (y < x → ⊥) → x ≤ y
not_above x y h = grind (arith, h)

below_chunks : (c n a u : ℕ) → 0 < c → a * c * n ≤ u → a * n ≤ u / c
below_chunks c n a u hc h =
    let q : u / c * c + u % c ≡ u = div-add-mod' u c in
    let r : u % c < c = mod_below u c hc in
    not_above (a * n) (u / c) (λ (l : u / c < a * n). let p : (u / c + 1) * c ≤ a * n * c = mul-le-mul_right c (omega (arith, l)) in omega (arith, p, q, r, h))

parts : (c n a u : ℕ) → 0 < c → 0 < n → a * c * n ≤ u → Parts c n a u
parts c n a u hc hn h =
    let d = u / c - a * n in
    let m : a * n ≤ u / c = below_chunks c n a u hc h in
    let q : u / c * c + u % c ≡ u = div-add-mod' u c in
    let e : (u / c - a * n) / n * n + (u / c - a * n) % n ≡ u / c - a * n = div-add-mod' (u / c - a * n) n in
    let f : ((a + (u / c - a * n) / n) * n + (u / c - a * n) % n) ≡ u / c = omega (arith, e, m) in
    record {
      row = (u / c - a * n) / n;
      turn = (u / c - a * n) % n;
      rest = u % c;
      is_turn = mod_below (u / c - a * n) n hn;
      is_rest = mod_below u c hc;
      whole = sym (ap (λ k. k * c + u % c) f ∙ q);
    }

-- a block in terms of its parts: where the stripe from a chunks on puts it, and where the tree does
quotient : (c n k i r : ℕ) → r < c → ((k * n + i) * c + r) / c ≡ k * n + i
quotient c n k i r h = div-mul-add (k * n + i) c r h

remainder : (c n k i r : ℕ) → r < c → ((k * n + i) * c + r) % c ≡ r
remainder c n k i r h = mod-mul-add (k * n + i) c r h

minus : (c n a k i r : ℕ) → ((a + k) * n + i) * c + r - a * c * n ≡ (k * n + i) * c + r
minus c n a k i r =
    let e : ((a + k) * n + i) * c + r ≡ (k * n + i) * c + r + a * c * n = omega arith in
    omega (arith, e)

chunk_place : (s c n k i r : ℕ) (legs : List Leg) (v u : ℕ) → length legs ≡ n → i < n → r < c → v - s ≡ (k * n + i) * c + r
    → stripe_place (record { start = s; len = u; chunk = c; legs = legs }) v ≡ ((get_or legs i (record { dev = 0; at = 0 })).dev, (get_or legs i (record { dev = 0; at = 0 })).at + k * c + r)
chunk_place s c n k i r legs v u l hi hr e =
    let q : (v - s) / c ≡ k * n + i = ap (λ x. x / c) e ∙ quotient c n k i r hr in
    let m : (v - s) % c ≡ r = ap (λ x. x % c) e ∙ remainder c n k i r hr in
    let t : (k * n + i) % length legs ≡ i = ap (λ x. (k * n + i) % x) l ∙ mod-mul-add k n i hi in
    let w : (k * n + i) / length legs ≡ k = ap (λ x. (k * n + i) / x) l ∙ div-mul-add k n i hi in
    rw (q, m, t, w) refl

tree_at : (s c n k i r : ℕ) (tracks : List (List Linear)) (v : ℕ) → length tracks ≡ n → i < n → r < c → v - s ≡ (k * n + i) * c + r
    → tree_place s c tracks v ≡ track_place (track tracks i) (k * c + r)
tree_at s c n k i r tracks v l hi hr e =
    let q : (v - s) / c ≡ k * n + i = ap (λ x. x / c) e ∙ quotient c n k i r hr in
    let m : (v - s) % c ≡ r = ap (λ x. x % c) e ∙ remainder c n k i r hr in
    let t : (k * n + i) % length tracks ≡ i = ap (λ x. (k * n + i) % x) l ∙ mod-mul-add k n i hi in
    let w : (k * n + i) / length tracks ≡ k = ap (λ x. (k * n + i) / x) l ∙ div-mul-add k n i hi in
    rw (q, m, t, w) refl

-- what holds of each inner volume
track_follows : (ts : List (List Linear)) (i : ℕ) → AreTracks ts → i < length ts → FollowsFrom 0 (track ts i)
track_follows [] i f h = absurd (omega arith)
track_follows (t ∷ ts) zero f h = f.0
track_follows (t ∷ ts) (suc i) f h = track_follows ts i f.1 (omega arith)

track_is_in : (ts : List (List Linear)) (i : ℕ) (xs : List ℕ) → AllIn ts xs → i < length ts → AreIn (track ts i) xs
track_is_in [] i xs f h = absurd (omega arith)
track_is_in (t ∷ ts) zero xs f h = f.0
track_is_in (t ∷ ts) (suc i) xs f h = track_is_in ts i xs f.1 (omega arith)

track_is_long : (m : ℕ) (ts : List (List Linear)) (i : ℕ) → list_any (is_other_length m) ts ≡ false → i < length ts → track_len (track ts i) ≡ m
track_is_long m [] i f h = absurd (omega arith)
track_is_long m (t ∷ ts) zero f h = same_number (track_len t) m (or_first (is_other_length m t) (list_any (is_other_length m) ts) f)
track_is_long m (t ∷ ts) (suc i) f h = track_is_long m ts i (or_second (is_other_length m t) (list_any (is_other_length m) ts) f) (omega arith)

leg_at : (x i : ℕ) (ts : List (List Linear)) (d : Leg) → i < length ts → get_or (map (leg_from x) ts) i d ≡ leg_from x (track ts i)
leg_at x i [] d h = absurd (omega arith)
leg_at x zero (t ∷ ts) d h = refl
leg_at x (suc i) (t ∷ ts) d h = leg_at x i ts d (omega arith)

by_chunk : (c q r h : ℕ) → 0 < c → r < c → q * c + r < c * h → q < h
by_chunk c q r h hc hr lt = subst (λ k. k < h) (div-mul-add q c r hr) (div_below (q * c + r) c h hc (subst (λ k. q * c + r < k) (mul_comm c h) lt))

abbrev pair : ℕ → ℕ → ℕ × ℕ
pair d n = (d, n)

minus_both : (v a b : ℕ) → v - (a + b) ≡ v - a - b
minus_both v a b = omega arith

within_end : (v start p q w : ℕ) → v - start - p ≡ w → start + p ≤ v → v < start + q → w + p < q
within_end v start p q w e lo hi = omega (arith, e)

-- the block after a + k chunks and r blocks lies before chunk b
before_end : (c n a b k i r : ℕ) → 0 < c → 0 < n → r < c → i < n → (k * n + i) * c + r + a * c * n < b * c * n → (a + k) * c + r < b * c
before_end c n a b k i r hc hn hr hi h =
    let lo : ((a + k) * n + i) * c + r < c * (n * b) = omega (arith, h) in
    let q : (a + k) * n + i < n * b = by_chunk c ((a + k) * n + i) r (n * b) hc hr lo in
    let w : a + k < b = by_chunk n (a + k) i b hn hi q in
    let z : (a + k) * c + r < c * b = mul-add-lt (a + k) c r b w hr in
    omega (arith, z)

-- the tree's place and the stripe's are one
same_chunks : (start c n m a b v : ℕ) (ts : List (List Linear)) (xs : List ℕ) → 0 < c → 0 < n → length ts ≡ n → AreTracks ts → AllIn ts xs → list_any (is_other_length m) ts ≡ false
    → Gap (a * c) (b * c) xs → a * c < m → start + a * c * n ≤ v → v < start + b * c * n → entry_place (stripe_between start c ts (a * c) (b * c)) v ≡ tree_place start c ts v
same_chunks start c n m a b v ts xs hc hn l f i w g hm lo hi =
    let p = parts c n a (v - start) hc hn (omega (arith, lo)) in
    let turn : p.turn < n = p.is_turn in
    let rest : p.rest < c = p.is_rest in
    let whole : v - start ≡ ((a + p.row) * n + p.turn) * c + p.rest = p.whole in
    let within : p.turn < length ts = omega (arith, l, turn) in
    let share : a * c * length ts ≡ a * c * n = ap (λ k. a * c * k) l in
    let less : v - start - a * c * n ≡ (p.row * n + p.turn) * c + p.rest = ap (λ k. k - a * c * n) whole ∙ minus c n a p.row p.turn p.rest in
    let off : v - (start + a * c * length ts) ≡ (p.row * n + p.turn) * c + p.rest = ap (λ k. v - (start + k)) share ∙ minus_both v start (a * c * n) ∙ less in
    let stripe = chunk_place (start + a * c * length ts) c n p.row p.turn p.rest (map (leg_from (a * c)) ts) v ((b * c - a * c) * length ts) (length-map ts (leg_from (a * c)) ∙ l) turn rest off in
    let tree = tree_at start c n (a + p.row) p.turn p.rest ts v l turn rest whole in
    let o : (a + p.row) * c + p.rest ≡ a * c + (p.row * c + p.rest) = omega arith in
    let small : (p.row * n + p.turn) * c + p.rest + a * c * n < b * c * n = within_end v start (a * c * n) (b * c * n) ((p.row * n + p.turn) * c + p.rest) less lo hi in
    let ends : (a + p.row) * c + p.rest < b * c = before_end c n a b p.row p.turn p.rest hc hn rest turn small in
    let spot = held 0 (a * c) (b * c) ((a + p.row) * c + p.rest) (track ts p.turn) xs (track_follows ts p.turn f within) (omega arith) (omega (arith, track_is_long m ts p.turn w within, hm)) (track_is_in ts p.turn xs i within) g (omega (arith, o)) ends in
    stripe ∙ ap (λ (e : Leg). pair e.dev (e.at + p.row * c + p.rest)) (leg_at (a * c) p.turn ts _ within) ∙ ap (pair (track_place (track ts p.turn) (a * c)).0) (together (track_place (track ts p.turn) (a * c)).1 (p.row * c) p.rest)
    ∙ further (track ts p.turn) (a * c) (p.row * c + p.rest) ((a + p.row) * c + p.rest) spot o ∙ sym tree

whole_chunks : (c x : ℕ) → x % c ≡ 0 → x / c * c ≡ x
whole_chunks c x h = let a : x / c * c + x % c ≡ x = div-add-mod' x c in omega (arith, a, h)

pub same_place : (start c n m x y v : ℕ) (ts : List (List Linear)) (xs : List ℕ) → 0 < c → 0 < n → length ts ≡ n → AreTracks ts → AllIn ts xs → list_any (is_other_length m) ts ≡ false
    → x % c ≡ 0 → y % c ≡ 0 → Gap x y xs → x < m → start + x * n ≤ v → v < start + y * n → entry_place (stripe_between start c ts x y) v ≡ tree_place start c ts v
same_place start c n m x y v ts xs hc hn l f i w hx hy =
    let P : ℕ → ℕ → Type 0 = λ p q. Gap p q xs → p < m → start + p * n ≤ v → v < start + q * n → entry_place (stripe_between start c ts p q) v ≡ tree_place start c ts v in
    subst (λ p. P p y) (whole_chunks c x hx) (subst (λ q. P (x / c * c) q) (whole_chunks c y hy) (same_chunks start c n m (x / c) (y / c) v ts xs hc hn l f i w))
