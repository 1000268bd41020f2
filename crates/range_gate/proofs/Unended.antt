-- The places of the ops that have not ended.
use Rattle.std.proofs.Common.{◌≡◌, ℕ, zero, suc, ◌-◌, ◌<◌, ◌≤◌, Bool, true, false, ◌&&◌, List, [], ◌∷◌, ◌++◌, length, get_or, set, take, drop, refl, sym, ap, ◌∙◌, ⊎_elim, subst, arith, append_assoc, length-drop}
use Rattle.std.specs.Prelude.{if◌then◌else◌, nat_lt, replicate}
use Rattle.std.specs.List.{remove}
use Rattle.std.proofs.lemmas.Bool.{cases_eq, le-ltb, lt-ltb}
use Rattle.std.proofs.lemmas.List.{get_or-set_same, get_or-set_other, length-set, take_all}
use Rattle.range_gate.specs.declared.phase.Phase.{Phase}
use Rattle.range_gate.specs.declared.phase.Phase.TheVariants.{Waiting, Ended}
use Rattle.range_gate.specs.Gates.{conflict_at, falling, has_ended, is_waiting, may_admit, none_conflicts, phase_at, unended}
use Rattle.range_gate.specs.Windows.{Falls}
use Rattle.small_laws.proofs.Tests.{second_no}

-- one more place in front, unless its op has ended
abbrev with : Bool → ℕ → List ℕ → List ℕ
with b n us = if b then us else n ∷ us

below_cons : (b : Bool) (n : ℕ) (us : List ℕ) (k : ℕ) → ((k : ℕ) → k < length us → get_or us k 0 < n) → k < length (with b n us) → get_or (with b n us) k 0 < suc n
below_cons true n us k f h = let g = f k h in omega arith
below_cons false n us zero f h = omega arith
below_cons false n us (suc k) f h = let g = f k (omega arith) in omega arith

pub unended-below : (ps : List Phase) (n k : ℕ) → k < length (unended ps n) → get_or (unended ps n) k 0 < n
unended-below ps zero k h = absurd (omega arith)
unended-below ps (suc n) k h = below_cons (has_ended (phase_at ps n)) n (unended ps n) k (unended-below ps n) h

falls_step : (n : ℕ) (us : List ℕ) → ((k : ℕ) → k < length us → get_or us k 0 < n) → Falls us → (a b : ℕ) → a < b → b < length (n ∷ us) → get_or (n ∷ us) b 0 < get_or (n ∷ us) a 0
falls_step n us f g a zero l m = absurd (omega arith)
falls_step n us f g zero (suc b) l m = f b (omega arith)
falls_step n us f g (suc a) (suc b) l m = g a b (omega arith) (omega arith)

falls_cons : (b : Bool) (n : ℕ) (us : List ℕ) → ((k : ℕ) → k < length us → get_or us k 0 < n) → Falls us → Falls (with b n us)
falls_cons true n us f g = g
falls_cons false n us f g = falls_step n us f g

pub unended-falls : (ps : List Phase) (n : ℕ) → Falls (unended ps n)
unended-falls ps zero = λ a b l m. absurd (omega arith)
unended-falls ps (suc n) = falls_cons (has_ended (phase_at ps n)) n (unended ps n) (unended-below ps n) (unended-falls ps n)

abbrev pub Has : List ℕ → ℕ → Type 0
Has us i = (a : ℕ) × (a < length us) × (get_or us a 0 ≡ i)

has_cons : (b : Bool) (n i : ℕ) (us : List ℕ) → Has us i → Has (with b n us) i
has_cons true n i us h = h
has_cons false n i us h = (suc h.0, (let k = h.1 in omega arith), h.2)

has_head : (b : Bool) (n i : ℕ) (us : List ℕ) → b ≡ false → i ≡ n → Has (with b n us) i
has_head true n i us e h = absurd (cc)
has_head false n i us e h = (0, omega arith, sym h)

pub found : (ps : List Phase) (n i : ℕ) → i < n → has_ended (phase_at ps i) ≡ false → Has (unended ps n) i
found ps zero i h e = absurd (omega arith)
found ps (suc n) i h e =
    ⊎_elim
    (λ (s : i ≡ n). has_head (has_ended (phase_at ps n)) n i (unended ps n) (ap (λ k. has_ended (phase_at ps k)) (sym s) ∙ e) s)
    (λ (ne : i ≡ n → ⊥). has_cons (has_ended (phase_at ps n)) n i (unended ps n) (found ps n i (omega arith) e))
    (cases_eq i n)

-- ---- the earlier ones are the last of the list

abbrev Above : List ℕ → ℕ → ℕ → Type 0
Above us i at = (a : ℕ) → a < at → i ≤ get_or us a 0

abbrev Behind : List ℕ → ℕ → ℕ → Type 0
Behind us i at = (a : ℕ) → at ≤ a → a < length us → get_or us a 0 < i

drop-nil : (at : ℕ) → drop {A = ℕ} at [] ≡ []
drop-nil zero = refl
drop-nil (suc at) = refl

whole : (us : List ℕ) (at i : ℕ) → ((k : ℕ) → k < length us → get_or us k 0 < i) → Above us i at → drop at us ≡ us
whole us zero i f a = refl
whole [] (suc at) i f a = refl
whole (x ∷ us) (suc at) i f a = let p = f 0 (omega arith) in let q = a 0 (omega arith) in absurd (omega arith)

suffix_cons : (b : Bool) (n i at : ℕ) (us vs : List ℕ) → i ≤ n → ((at : ℕ) → Above us i at → Behind us i at → drop at us ≡ vs) → Above (with b n us) i at → Behind (with b n us) i at → drop at (with b n us) ≡ vs
suffix_cons true n i at us vs h f p q = f at p q
suffix_cons false n i zero us vs h f p q = let r = q 0 (omega arith) (omega arith) in absurd (omega arith)
suffix_cons false n i (suc at) us vs h f p q = f at (λ a l. p (suc a) (omega arith)) (λ a l m. q (suc a) (omega arith) (omega arith))

pub suffix : (ps : List Phase) (n i at : ℕ) → i ≤ n → Above (unended ps n) i at → Behind (unended ps n) i at → drop at (unended ps n) ≡ unended ps i
suffix ps zero zero at h p q = drop-nil at
suffix ps zero (suc i) at h p q = absurd (omega arith)
suffix ps (suc n) i at h p q =
    ⊎_elim
    (λ (e : i ≡ suc n).
    let w = whole (unended ps (suc n)) at i (λ k l. let b = unended-below ps (suc n) k l in omega arith) p in
    w ∙ ap (unended ps) (sym e))
    (λ (ne : i ≡ suc n → ⊥). suffix_cons (has_ended (phase_at ps n)) n i at (unended ps n) (unended ps i) (omega arith) (λ a. suffix ps n i a (omega arith)) p q)
    (cases_eq i (suc n))

many_cons : (b : Bool) (n i at m : ℕ) (us : List ℕ) → i ≤ n → ((at : ℕ) → Behind us i at → length us - at ≤ m) → Behind (with b n us) i at → length (with b n us) - at ≤ m
many_cons true n i at m us h f q = f at q
many_cons false n i zero m us h f q = let r = q 0 (omega arith) (omega arith) in absurd (omega arith)
many_cons false n i (suc at) m us h f q = let g = f at (λ a l o. q (suc a) (omega arith) (omega arith)) in omega arith

pub many : (ps : List Phase) (n i at : ℕ) → i ≤ n → Behind (unended ps n) i at → length (unended ps n) - at ≤ length (unended ps i)
many ps zero i at h q = omega arith
many ps (suc n) i at h q =
    ⊎_elim
    (λ (e : i ≡ suc n). let f = ap (λ k. length (unended ps k)) e in omega arith)
    (λ (ne : i ≡ suc n → ⊥). many_cons (has_ended (phase_at ps n)) n i at (length (unended ps i)) (unended ps n) (omega arith) (λ a. many ps n i a (omega arith)) q)
    (cases_eq i (suc n))

-- ---- a phase that changes

with-same : (b c : Bool) (n : ℕ) (us vs : List ℕ) → b ≡ c → us ≡ vs → with b n us ≡ with c n vs
with-same b c n us vs e f = ap (λ x. with x n us) e ∙ ap (with c n) f

pub alike : (ps qs : List Phase) (n : ℕ) → ((k : ℕ) → k < n → has_ended (phase_at qs k) ≡ has_ended (phase_at ps k)) → unended qs n ≡ unended ps n
alike ps qs zero f = refl
alike ps qs (suc n) f = with-same (has_ended (phase_at qs n)) (has_ended (phase_at ps n)) n (unended qs n) (unended ps n) (f n (omega arith)) (alike ps qs n (λ k l. f k (omega arith)))

other : (ps : List Phase) (i k : ℕ) (x : Phase) → (k ≡ i → ⊥) → has_ended (phase_at (set ps i x) k) ≡ has_ended (phase_at ps k)
other ps i k x ne = ap has_ended (get_or-set_other ps i k x Ended ne)

removed_cons : (b : Bool) (n i at : ℕ) (us vs : List ℕ) (c : Bool) → ((k : ℕ) → k < length us → get_or us k 0 < n) → (i ≡ n → c ≡ true) → (i ≡ n → vs ≡ us) → ((i ≡ n → ⊥) → c ≡ b) →
    ((at : ℕ) → at < length us → get_or us at 0 ≡ i → remove us at ≡ vs) → at < length (with b n us) → get_or (with b n us) at 0 ≡ i → remove (with b n us) at ≡ with c n vs
removed_cons true n i at us vs c below same keep others ih l e =
    let m = below at l in
    let d : c ≡ true = others (λ s. omega arith) in
    rw d (ih at l e)
removed_cons false n i zero us vs c below same keep others ih l e =
    let d : c ≡ true = same (sym e) in
    let k : vs ≡ us = keep (sym e) in
    rw d (sym k)
removed_cons false n i (suc at) us vs c below same keep others ih l e =
    let m = below at (omega arith) in
    let d : c ≡ false = others (λ s. omega arith) in
    rw d (ap (λ z. n ∷ z) (ih at (omega arith) e))

pub removed : (ps : List Phase) (n i at : ℕ) → i < length ps → at < length (unended ps n) → get_or (unended ps n) at 0 ≡ i → remove (unended ps n) at ≡ unended (set ps i Ended) n
removed ps zero i at h l e = absurd (omega arith)
removed ps (suc n) i at h l e =
    removed_cons (has_ended (phase_at ps n)) n i at (unended ps n) (unended (set ps i Ended) n) (has_ended (phase_at (set ps i Ended) n)) (unended-below ps n)
    (λ s. ap (λ j. has_ended (phase_at (set ps i Ended) j)) (sym s) ∙ ap has_ended (get_or-set_same ps i Ended Ended h))
    (λ s. alike ps (set ps i Ended) n (λ k m. other ps i k Ended (λ q. omega arith)))
    (λ ne. other ps i n Ended (λ q. ne (sym q)))
    (λ a. removed ps n i a h)
    l e

-- ---- all ops wait at first

fresh : (n k m : ℕ) → k < n → phase_at (replicate n Waiting) k ≡ Waiting
fresh zero k m h = absurd (omega arith)
fresh (suc n) zero m h = refl
fresh (suc n) (suc k) m h = fresh n k m (omega arith)

all_unended : (ps : List Phase) (n : ℕ) → ((k : ℕ) → k < n → has_ended (phase_at ps k) ≡ false) → unended ps n ≡ falling n
all_unended ps zero f = refl
all_unended ps (suc n) f = with-same (has_ended (phase_at ps n)) false n (unended ps n) (falling n) (f n (omega arith)) (all_unended ps n (λ k l. f k (omega arith)))

pub unended-fresh : (n : ℕ) → unended (replicate n Waiting) n ≡ falling n
unended-fresh n = all_unended (replicate n Waiting) n (λ k l. ap has_ended (fresh n k 0 l))

-- ---- may_admit

-- what was looked at
pub record Looked (ps : List Phase) (us : List ℕ) (i k : ℕ) : Type 0 where
  pub live : us ≡ unended ps (length ps)
  pub op : i < length ps
  pub within : k ≤ length us
  pub most : k ≤ 32
  pub below : (a : ℕ) → length us - k ≤ a → a < length us → get_or us a 0 < i
  pub all : k < 32 → (a : ℕ) → a < length us - k → i ≤ get_or us a 0

abbrev pub looked_at : List ℕ → ℕ → List ℕ
looked_at us first = take (length us - first) (drop first us)

looked : (us : List ℕ) (first k : ℕ) → k ≤ length us → first ≡ length us - k → (looked_at us first ≡ drop (length us - k) us) × (length (looked_at us first) ≡ k)
looked us first k h e =
    let f : looked_at us first ≡ drop first us = take_all (length us - first) (drop first us) (omega (arith, length-drop first us)) in
    let g : drop first us ≡ drop (length us - k) us = ap (λ n. drop n us) e in
    (f ∙ g, ap length (f ∙ g) ∙ length-drop (length us - k) us ∙ omega arith)

pub few : (table : List (List Bool)) (ps : List Phase) (us : List ℕ) (first i k : ℕ) (r : Bool) → Looked ps us i k → is_waiting (phase_at ps i) ≡ true → first ≡ length us - k →
    length (looked_at us first) < 32 → r ≡ none_conflicts (conflict_at table) i (looked_at us first) → r ≡ may_admit (record { conflicts = table; phases = ps }) i
few table ps us first i k r x w f l e =
    let a = looked us first k x.within f in
    let c : k < 32 = (let b = a.1 in omega arith) in
    let d : drop (length us - k) us ≡ unended ps i =
    ap (λ v. drop (length us - k) v) x.live ∙ suffix ps (length ps) i (length us - k) (let o = x.op in omega arith)
    (λ b m. (let p = x.all c b m in rw (sym (ap (λ v. get_or v b 0) x.live)) p))
    (λ b m n. (let q = ap length x.live in let p = x.below b m (omega arith) in rw (sym (ap (λ v. get_or v b 0) x.live)) p)) in
    let g : looked_at us first ≡ unended ps i = a.0 ∙ d in
    let h : nat_lt (length (unended ps i)) 32 ≡ true = lt-ltb (length (unended ps i)) 32 (let b = ap length g in omega arith) in
    e ∙ ap (none_conflicts (conflict_at table) i) g ∙ sym (ap (λ b. b && (nat_lt (length (unended ps i)) 32 && none_conflicts (conflict_at table) i (unended ps i))) w ∙ ap (λ b. b && none_conflicts (conflict_at table) i (unended ps i)) h)

pub too_many : (table : List (List Bool)) (ps : List Phase) (us : List ℕ) (first i k : ℕ) (r : Bool) → Looked ps us i k → first ≡ length us - k →
    32 ≤ length (looked_at us first) → r ≡ false → r ≡ may_admit (record { conflicts = table; phases = ps }) i
too_many table ps us first i k r x f l e =
    let a = looked us first k x.within f in
    let n = ap length x.live in
    let m = many ps (length ps) i (length us - k) (let o = x.op in omega arith)
    (λ b o p. (let q = x.below b o (omega arith) in rw (sym (ap (λ v. get_or v b 0) x.live)) q)) in
    let h : nat_lt (length (unended ps i)) 32 ≡ false = le-ltb (length (unended ps i)) 32 (let b = a.1 in let w = x.within in omega arith) in
    e ∙ sym (second_no (is_waiting (phase_at ps i)) (nat_lt (length (unended ps i)) 32) (none_conflicts (conflict_at table) i (unended ps i)) h)

-- ---- end, and the list of all places

pub ended-whole : (ps qs : List Phase) (us vs ws : List ℕ) (i at : ℕ) → us ≡ unended ps (length ps) → i < length ps → ws ≡ us → at < length ws → get_or ws at 0 ≡ i → vs ≡ remove us at → qs ≡ set ps i Ended → vs ≡ unended qs (length qs)
ended-whole ps qs us vs ws i at x o w l e r q =
    let y : ws ≡ unended ps (length ps) = w ∙ x in
    let n : length qs ≡ length ps = ap length q ∙ length-set ps i Ended in
    r ∙ ap (λ v. remove v at) x ∙ removed ps (length ps) i at o (let m = ap length y in omega arith) (sym (ap (λ v. get_or v at 0) y) ∙ e) ∙ ap (λ v. unended v (length ps)) (sym q) ∙ ap (unended qs) (sym n)

pub stands : (ps : List Phase) (us ws : List ℕ) (i : ℕ) → us ≡ unended ps (length ps) → i < length ps → ws ≡ us → has_ended (phase_at ps i) ≡ false → Has ws i
stands ps us ws i x o w e = let f = found ps (length ps) i o e in subst (λ v. Has v i) (sym (w ∙ x)) f

pub falling-step : (i : ℕ) → 0 < i → falling i ≡ (i - 1) ∷ falling (i - 1)
falling-step zero h = absurd (omega arith)
falling-step (suc i) h = let e : suc i - 1 ≡ i = omega arith in rw e refl

pub one_more : (us vs : List ℕ) (i n : ℕ) → 0 < i → us ++ falling i ≡ falling n → vs ≡ us ++ (i - 1) ∷ [] → vs ++ falling (i - 1) ≡ falling n
one_more us vs i n h e f = ap (λ v. v ++ falling (i - 1)) f ∙ append_assoc us ((i - 1) ∷ []) (falling (i - 1)) ∙ ap (λ v. us ++ v) (sym (falling-step i h)) ∙ e
