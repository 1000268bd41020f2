-- Chains, as one place's link is set and bios are put at places.
use Rattle.std.proofs.Common.{◌≡◌, ℕ, zero, suc, ◌+◌, ◌<◌, ◌≤◌, true, false, eqb, List, [], ◌∷◌, ◌++◌, length, get_or, set, take, refl, sym, ap, ◌∙◌, ⊎_elim, arith, rules}
use Rattle.std.proofs.lemmas.Bool.{cases_eq, ne_eqb}
use Rattle.std.proofs.lemmas.List.{get_or-set_same, get_or-set_other, length-set, length-take-le, take_more}
use Rattle.bio_core.specs.declared.bio.Bio.{Bio}
use Rattle.merge_queue.specs.Chains.{after, path, bios_at, filled, times, no_bio}
use Rattle.merge_queue.specs.Groups.{numbers}

pub length-path : (next : List ℕ) (a n : ℕ) → length (path next a n) ≡ n
length-path next a zero = refl
length-path next a (suc n) = let e = length-path next (get_or next a 0) n in omega arith

pub path-more : (next : List ℕ) (a m n : ℕ) → path next a (m + n) ≡ path next a m ++ path next (after next a m) n
path-more next a zero n = let e : 0 + n ≡ n = omega arith in rw e refl
path-more next a (suc m) n = let e : suc m + n ≡ suc (m + n) = omega arith in rw e (ap (λ l. a ∷ l) (path-more next (get_or next a 0) m n))

pub after-more : (next : List ℕ) (a m n : ℕ) → after next a (m + n) ≡ after next (after next a m) n
after-more next a zero n = let e : 0 + n ≡ n = omega arith in rw e refl
after-more next a (suc m) n = let e : suc m + n ≡ suc (m + n) = omega arith in rw e (after-more next (get_or next a 0) m n)

pub path-last : (next : List ℕ) (a m : ℕ) → path next a (suc m) ≡ path next a m ++ (after next a m ∷ [])
path-last next a m = let e : suc m ≡ m + 1 = omega arith in ap (path next a) e ∙ path-more next a m 1

pub after-last : (next : List ℕ) (a m : ℕ) → after next a (suc m) ≡ get_or next (after next a m) 0
after-last next a m = let e : suc m ≡ m + 1 = omega arith in ap (after next a) e ∙ after-more next a m 1

-- ---- how often a place stands in a list

pub times-append : (x : ℕ) (ps qs : List ℕ) → times x (ps ++ qs) ≡ times x ps + times x qs
times-append x [] qs = omega arith
times-append x (p ∷ ps) qs = let e = times-append x ps qs in omega arith

pub times-self : (x : ℕ) (ps : List ℕ) → times x (x ∷ ps) ≡ 1 + times x ps
times-self x ps = let e : eqb x x ≡ true = eqb-refl x in rw e refl
  where
    eqb-refl : (x : ℕ) → eqb x x ≡ true
    eqb-refl x = search rules

pub other-place : (x p : ℕ) (ps : List ℕ) → times x (p ∷ ps) ≡ 0 → (x ≡ p → ⊥) × (times x ps ≡ 0)
other-place x p ps h = (λ e. (let s = times-self x ps in let t = ap (λ q. times x (q ∷ ps)) e in omega arith), omega arith)

pub times-first : (next : List ℕ) (a n : ℕ) → 1 ≤ n → 1 ≤ times a (path next a n)
times-first next a zero h = absurd (omega arith)
times-first next a (suc n) h = let e = times-self a (path next (get_or next a 0) n) in omega arith

pub times-after : (next : List ℕ) (a k n : ℕ) → k < n → 1 ≤ times (after next a k) (path next a n)
times-after next a zero zero h = absurd (omega arith)
times-after next a (suc k) zero h = absurd (omega arith)
times-after next a zero (suc n) h = times-first next a (suc n) (omega arith)
times-after next a (suc k) (suc n) h = let e = times-after next (get_or next a 0) k n (omega arith) in omega arith

pub times-less : (next : List ℕ) (x a m n : ℕ) → m ≤ n → times x (path next a m) ≤ times x (path next a n)
times-less next x a zero n h = omega arith
times-less next x a (suc m) zero h = absurd (omega arith)
times-less next x a (suc m) (suc n) h = let e = times-less next x (get_or next a 0) m n (omega arith) in omega arith

-- the last place of a path that has no place twice stands in it once, and nowhere before
pub last-once : (next : List ℕ) (a m : ℕ) → times (after next a m) (path next a (suc m)) ≤ 1 → times (after next a m) (path next a m) ≡ 0
last-once next a m h =
    let l = after next a m in
    let e = ap (times l) (path-last next a m) in
    let f = times-append l (path next a m) (l ∷ []) in
    let g = times-self l [] in
    omega arith

-- ---- a link is set

pub path-set : (next : List ℕ) (l v a n : ℕ) → times l (path next a n) ≡ 0 → path (set next l v) a n ≡ path next a n
path-set next l v a zero h = refl
path-set next l v a (suc n) h =
    let o = other-place l a (path next (get_or next a 0) n) h in
    let e : get_or (set next l v) a 0 ≡ get_or next a 0 = get_or-set_other next l a v 0 (λ q. o.0 (sym q)) in
    ap (λ b. a ∷ path (set next l v) b n) e ∙ ap (λ ps. a ∷ ps) (path-set next l v (get_or next a 0) n o.1)

pub after-set : (next : List ℕ) (l v a n : ℕ) → times l (path next a n) ≡ 0 → after (set next l v) a n ≡ after next a n
after-set next l v a zero h = refl
after-set next l v a (suc n) h =
    let o = other-place l a (path next (get_or next a 0) n) h in
    let e : get_or (set next l v) a 0 ≡ get_or next a 0 = get_or-set_other next l a v 0 (λ q. o.0 (sym q)) in
    ap (λ b. after (set next l v) b n) e ∙ after-set next l v (get_or next a 0) n o.1

-- the link of a path's last place doesn't count
pub path-set_own : (next : List ℕ) (l v a m : ℕ) → times l (path next a m) ≡ 0 → path (set next l v) a (suc m) ≡ path next a (suc m)
path-set_own next l v a m h =
    path-last (set next l v) a m ∙ ap (λ ps. ps ++ (after (set next l v) a m ∷ [])) (path-set next l v a m h)
    ∙ ap (λ b. path next a m ++ (b ∷ [])) (after-set next l v a m h) ∙ sym (path-last next a m)

pub linked : (next : List ℕ) (l a m b n : ℕ) → l ≡ after next a m → l < length next → times l (path next a m) ≡ 0 → times l (path next b n) ≡ 0 →
    path (set next l b) a (suc m + n) ≡ path next a (suc m) ++ path next b n
linked next l a m b n e h o p =
    let f : after (set next l b) a (suc m) ≡ b =
    after-last (set next l b) a m ∙ ap (λ k. get_or (set next l b) k 0) (after-set next l b a m o ∙ sym e) ∙ get_or-set_same next l b 0 h in
    path-more (set next l b) a (suc m) n
    ∙ ap (λ ps. ps ++ path (set next l b) (after (set next l b) a (suc m)) n) (path-set_own next l b a m o)
    ∙ ap (λ k. path next a (suc m) ++ path (set next l b) k n) f
    ∙ ap (λ ps. path next a (suc m) ++ ps) (path-set next l b b n p)

pub after-linked : (next : List ℕ) (l a m b n : ℕ) → l ≡ after next a m → l < length next → times l (path next a m) ≡ 0 → times l (path next b n) ≡ 0 →
    after (set next l b) a (suc m + n) ≡ after next b n
after-linked next l a m b n e h o p =
    let f : after (set next l b) a (suc m) ≡ b =
    after-last (set next l b) a m ∙ ap (λ k. get_or (set next l b) k 0) (after-set next l b a m o ∙ sym e) ∙ get_or-set_same next l b 0 h in
    after-more (set next l b) a (suc m) n ∙ ap (λ k. after (set next l b) k n) f ∙ after-set next l b b n p

-- ---- bios at places

pub length-bios_at : (bios : List Bio) (ps : List ℕ) → length (bios_at bios ps) ≡ length ps
length-bios_at bios [] = refl
length-bios_at bios (p ∷ ps) = let e = length-bios_at bios ps in omega arith

pub bios_at-append : (bios : List Bio) (ps qs : List ℕ) → bios_at bios (ps ++ qs) ≡ bios_at bios ps ++ bios_at bios qs
bios_at-append bios [] qs = refl
bios_at-append bios (p ∷ ps) qs = ap (λ bs. get_or bios p no_bio ∷ bs) (bios_at-append bios ps qs)

pub filled-other : (ps : List ℕ) (run bios : List Bio) (x : ℕ) (d : Bio) → times x ps ≡ 0 → get_or (filled ps run bios) x d ≡ get_or bios x d
filled-other [] run bios x d h = refl
filled-other (p ∷ ps) [] bios x d h = refl
filled-other (p ∷ ps) (b ∷ run) bios x d h =
    let o = other-place x p ps h in
    filled-other ps run (set bios p b) x d o.1 ∙ get_or-set_other bios p x b d o.0

pub bios_at-other : (ps qs : List ℕ) (run bios : List Bio) → ((x : ℕ) → times x ps + times x qs ≤ 1) → bios_at (filled ps run bios) qs ≡ bios_at bios qs
bios_at-other ps [] run bios h = refl
bios_at-other ps (q ∷ qs) run bios h =
    let s = times-self q qs in
    let k = h q in
    ap (λ b. b ∷ bios_at (filled ps run bios) qs) (filled-other ps run bios q no_bio (omega arith))
    ∙ ap (λ bs. get_or bios q no_bio ∷ bs) (bios_at-other ps qs run bios (λ x. (let j = h x in omega arith)))

pub length-filled : (ps : List ℕ) (run bios : List Bio) → length (filled ps run bios) ≡ length bios
length-filled [] run bios = refl
length-filled (p ∷ ps) [] bios = refl
length-filled (p ∷ ps) (b ∷ run) bios = length-filled ps run (set bios p b) ∙ length-set bios p b

pub bios_at-filled : (ps : List ℕ) (run bios : List Bio) → length run ≡ length ps → ((x : ℕ) → times x ps ≤ 1) → ((x : ℕ) → 1 ≤ times x ps → x < length bios) → bios_at (filled ps run bios) ps ≡ run
bios_at-filled [] [] bios l o w = refl
bios_at-filled [] (b ∷ run) bios l o w = absurd (omega arith)
bios_at-filled (p ∷ ps) [] bios l o w = absurd (omega arith)
bios_at-filled (p ∷ ps) (b ∷ run) bios l o w =
    let s = times-self p ps in
    let k = o p in
    let f = filled-other ps run (set bios p b) p no_bio (omega arith) ∙ get_or-set_same bios p b no_bio (w p (omega arith)) in
    let n = length-set bios p b in
    ap (λ c. c ∷ bios_at (filled ps run (set bios p b)) ps) f
    ∙ ap (λ bs. b ∷ bs) (bios_at-filled ps run (set bios p b) (omega arith) (λ x. (let j = o x in omega arith)) (λ x m. (let j = w x (omega arith) in omega arith)))

pub filled-more : (ps : List ℕ) (run bios : List Bio) (p : ℕ) (b : Bio) → length run ≡ length ps → filled (ps ++ (p ∷ [])) (run ++ (b ∷ [])) bios ≡ set (filled ps run bios) p b
filled-more [] [] bios p b l = refl
filled-more [] (c ∷ run) bios p b l = absurd (omega arith)
filled-more (q ∷ ps) [] bios p b l = absurd (omega arith)
filled-more (q ∷ ps) (c ∷ run) bios p b l = filled-more ps run (set bios q c) p b (omega arith)

-- ---- one chain of all places

pub one-chain : (k m i : ℕ) → i < m → get_or (numbers k m) i 0 ≡ k + i
one-chain k zero i h = absurd (omega arith)
one-chain k (suc m) zero h = omega arith
one-chain k (suc m) (suc i) h = let e = one-chain (suc k) m i (omega arith) in omega arith

pub path-of_one : (all a n : ℕ) → a + n ≤ all → path (numbers 1 all) a n ≡ numbers a n
path-of_one all a zero h = refl
path-of_one all a (suc n) h =
    let e : get_or (numbers 1 all) a 0 ≡ suc a = one-chain 1 all a (omega arith) ∙ omega arith in
    ap (λ b. a ∷ path (numbers 1 all) b n) e ∙ ap (λ ps. a ∷ ps) (path-of_one all (suc a) n (omega arith))

pub times-numbers : (x k n : ℕ) → (x < k → times x (numbers k n) ≡ 0) × (times x (numbers k n) ≤ 1) × (k + n ≤ x → times x (numbers k n) ≡ 0)
times-numbers x k zero = (λ h. refl, omega arith, λ h. refl)
times-numbers x k (suc n) =
    let r = times-numbers x (suc k) n in
    ⊎_elim
    (λ (e : x ≡ k). (let a = r.0 (omega arith) in let b : eqb x k ≡ true = subst_eqb x k e in (λ h. absurd (omega arith), rw b (omega arith), λ h. absurd (omega arith))))
    (λ (n' : x ≡ k → ⊥). (let b : eqb x k ≡ false = ne_eqb x k n' in let c = r.1 in (λ h. rw b (let a = r.0 (omega arith) in omega arith), rw b (omega arith), λ h. rw b (let a = r.2 (omega arith) in omega arith))))
    (cases_eq x k)
  where
    subst_eqb : (x k : ℕ) → x ≡ k → eqb x k ≡ true
    subst_eqb x k e = search (rules, e)

-- ---- one step of a walk along a chain

pub fill-more : (next : List ℕ) (first i place : ℕ) (run bios now : List Bio) → i < length run → place ≡ after next first i → now ≡ filled (path next first i) (take i run) bios →
    set now place (get_or run i no_bio) ≡ filled (path next first (i + 1)) (take (i + 1) run) bios
fill-more next first i place run bios now h e f =
    ap (λ b. set b place (get_or run i no_bio)) f ∙ ap (λ p. set (filled (path next first i) (take i run) bios) p (get_or run i no_bio)) e
    ∙ sym (ap (λ ps. filled ps (take (i + 1) run) bios) (path-more next first i 1) ∙ ap (λ bs. filled (path next first i ++ (after next first i ∷ [])) bs bios) (take_more run i no_bio h)
    ∙ filled-more (path next first i) (take i run) bios (after next first i) (get_or run i no_bio) (length-take-le i run (omega arith) ∙ sym (length-path next first i)))

pub copy-more : (next : List ℕ) (first i place : ℕ) (bios : List Bio) (b : Bio) → place ≡ after next first i → b ≡ get_or bios place no_bio →
    bios_at bios (path next first (i + 1)) ≡ bios_at bios (path next first i) ++ (b ∷ [])
copy-more next first i place bios b e f =
    ap (bios_at bios) (path-more next first i 1) ∙ bios_at-append bios (path next first i) (after next first i ∷ [])
    ∙ ap (λ p. bios_at bios (path next first i) ++ (get_or bios p no_bio ∷ [])) (sym e) ∙ ap (λ c. bios_at bios (path next first i) ++ (c ∷ [])) (sym f)

pub numbers-more : (k n : ℕ) → numbers k (n + 1) ≡ numbers k n ++ ((k + n) ∷ [])
numbers-more k zero = let e : k + 0 ≡ k = omega arith in rw e refl
numbers-more k (suc n) =
    let e : suc n + 1 ≡ suc (n + 1) = omega arith in
    let f : suc k + n ≡ k + suc n = omega arith in
    rw e (ap (λ l. k ∷ l) (numbers-more (suc k) n ∙ ap (λ x. numbers (suc k) n ++ (x ∷ [])) f))

pub length-numbers : (k n : ℕ) → length (numbers k n) ≡ n
length-numbers k zero = refl
length-numbers k (suc n) = let e = length-numbers (suc k) n in omega arith
