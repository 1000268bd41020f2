-- What lies behind the first n bytes is not seen.
use Rattle.std.proofs.Common.{◌≡◌, ◌<◌, ◌≤◌, ℕ, zero, suc, false, nat_eq, List, [], ◌∷◌, take, get_or, set, None, refl, sym, ap, ◌∙◌, arith}
use Rattle.std.specs.List.{All, AllByRecursion, IsDistinct}
use Rattle.std.proofs.lemmas.List.Elements.{All-cons, All-nil}
use Rattle.std.proofs.lemmas.Bool.{or_parts}
use Rattle.page_pool.specs.Cells.{gather, is_in, scatter}
use Rattle.walk_laws.specs.Passed.{Act, State, act, effect, tell, AreCells, hidden}
use Rattle.walk_laws.proofs.Passed.{same_cells, AllBelow, Distinct}
use Rattle.run_laws.proofs.Turns.{AllFrom}

take_set : {X : Type 0} (n : ℕ) (xs : List X) (i : ℕ) (v : X) → take n (set xs i v) ≡ set (take n xs) i v
take_set zero xs i v = refl
take_set (suc n) [] i v = refl
take_set (suc n) (x ∷ xs) zero v = refl
take_set (suc n) (x ∷ xs) (suc i) v = ap (λ rest. x ∷ rest) (take_set n xs i v)

take_scatter : {X : Type 0} (n : ℕ) (at : List ℕ) (vs cells : List X) → take n (scatter at vs cells) ≡ scatter at vs (take n cells)
take_scatter n [] vs cells = refl
take_scatter n (i ∷ at) [] cells = refl
take_scatter n (i ∷ at) (v ∷ vs) cells = take_scatter n at vs (set cells i v) ∙ ap (scatter at vs) (take_set n cells i v)

get_front : {X : Type 0} (n : ℕ) (xs : List X) (i : ℕ) (d : X) → i < n → get_or (take n xs) i d ≡ get_or xs i d
get_front zero xs i d l = absurd (omega (arith, l))
get_front (suc n) [] i d l = refl
get_front (suc n) (x ∷ xs) zero d l = refl
get_front (suc n) (x ∷ xs) (suc i) d l = get_front n xs i d (omega (arith, l))

gather_front : {X : Type 0} (none : X) (n : ℕ) (at : List ℕ) (cells : List X) → AllBelow n at → gather none at (take n cells) ≡ gather none at cells
gather_front none n [] cells h = refl
gather_front none n (i ∷ at) cells h = let first = get_front n cells i none h.0 in let rest = gather_front none n at cells h.1 in cc

-- an act that looks only before n does the same without what is behind
pub record IsHidden {R : Type 0} (n : ℕ) (a : Act R) (s : State) : Type 0 where
  pub state : act a (hidden n s) ≡ hidden n (act a s)
  pub answer : tell a (hidden n s) ≡ tell a s

pub act_hidden : {R : Type 0} (n : ℕ) (a : Act R) (s : State) → AllBelow n a.bytes.reads → a.fates.reads ≡ [] → a.fates.writes ≡ [] → IsHidden n a s
act_hidden n a s h p q =
    let fates : gather None a.fates.reads [] ≡ gather None a.fates.reads s.fates = ap (λ at. gather None at []) p ∙ sym (ap (λ at. gather None at s.fates) p) in
    let same : effect a (hidden n s) ≡ effect a s = ap a.compute (same_cells _ _ _ _ _ _ _ _ (gather_front 0 n a.bytes.reads s.bytes h) refl refl fates) in
    record {
      state = same_cells _ _ _ _ _ _ _ _
          (ap (λ e. scatter a.bytes.writes e.written.bytes (take n s.bytes)) same ∙ sym (take_scatter n a.bytes.writes (effect a s).written.bytes s.bytes))
          (ap (λ e. scatter a.blocks.writes e.written.blocks s.blocks) same)
          (ap (λ e. scatter a.logs.writes e.written.logs s.logs) same)
          (ap (λ at. scatter at (effect a (hidden n s)).written.fates []) q);
      answer = ap (λ e. e.answer) same;
    }

-- lists of cells, in the words of the contracts
not_among : (i : ℕ) (xs : List ℕ) → is_in i xs ≡ false → AllByRecursion (λ j. nat_eq i j ≡ false) xs
not_among i [] h = tt
not_among i (x ∷ xs) h = let p = or_parts (nat_eq i x) (is_in i xs) h in (p.0, not_among i xs p.1)

pub once : (xs : List ℕ) → Distinct xs → IsDistinct nat_eq xs
unfolding IsDistinct
once [] h = tt
once (x ∷ xs) h = (not_among x xs h.0, once xs h.1)

pub all_below : (n : ℕ) (xs : List ℕ) → AllBelow n xs → All (λ i. i < n) xs
all_below n [] h = All-nil (λ i. i < n)
all_below n (x ∷ xs) h = All-cons (λ i. i < n) x xs h.0 (all_below n xs h.1)

pub all_from : (n : ℕ) (xs : List ℕ) → AllFrom n xs → All (λ i. n ≤ i) xs
all_from n [] h = All-nil (λ i. n ≤ i)
all_from n (x ∷ xs) h = All-cons (λ i. n ≤ i) x xs h.0 (all_from n xs h.1)

pub are_cells : (n : ℕ) (xs : List ℕ) → Distinct xs → AllBelow n xs → AreCells n xs
are_cells n xs d h = record { once = once xs d; below = all_below n xs h }

pub below_more : (n k : ℕ) (xs : List ℕ) → n ≤ k → AllBelow n xs → AllBelow k xs
below_more n k [] l h = tt
below_more n k (x ∷ xs) l h = (let o = h.0 in omega (arith, l, o), below_more n k xs l h.1)
