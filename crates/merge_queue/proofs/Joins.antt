-- Only the groups that begin where another ends may be joined behind it.
use Rattle.std.proofs.Common.{◌≡◌, ℕ, zero, suc, ◌+◌, ◌-◌, ◌<◌, ◌≤◌, Bool, true, false, not, eqb, List, [], ◌∷◌, ◌++◌, length, get_or, map, refl, sym, ap, ◌∙◌, subst, ⊎_elim, arith, append-nil, length-append}
use Rattle.std.specs.Prelude.{if◌then◌else◌}
use Rattle.std.specs.List.{filter, flat_map}
use Rattle.std.proofs.lemmas.Bool.{cases_Bool, cases_lt, and_left, and_right, ne_eqb}
use Rattle.std.proofs.lemmas.List.Elements.{filter-append}
use Rattle.std.proofs.lemmas.List.{get_or_append_left, get_or-append_right, get_or-map, length-map}
use Rattle.std.proofs.lemmas.Grind.{flat_map-append}
use Rattle.bio_core.specs.declared.bio.Bio.{Bio}
use Rattle.merge_queue.specs.declared.limits.Limits.{Limits}
use Rattle.merge_queue.specs.declared.entries.Entry.{Entry}
use Rattle.merge_queue.specs.Groups.{size, Group, lba_of, dir_of, same_dir, may_follow, may_join, group_in, numbers, followers, pairs_below}
use Rattle.merge_queue.specs.Index.{Queued, group_at, groups_of, Describes, IsIndex}
use Rattle.merge_queue.proofs.Index.{known}

pub numbers-split : (k a b n : ℕ) → n ≡ a + b → numbers k n ≡ numbers k a ++ numbers (k + a) b
numbers-split k zero b n e = let f : n ≡ b = omega arith in let g : k + 0 ≡ k = omega arith in rw (f, g) refl
numbers-split k (suc a) b zero e = absurd (omega arith)
numbers-split k (suc a) b (suc n) e =
    let h = numbers-split (suc k) a b n (omega arith) in
    let g : suc k + a ≡ k + suc a = omega arith in
    ap (λ l. k ∷ l) (h ∙ ap (λ m. numbers (suc k) a ++ numbers m b) g)

pub none-pass : (t : ℕ → Bool) (k n : ℕ) → ((j : ℕ) → k ≤ j → j < k + n → t j ≡ false) → filter t (numbers k n) ≡ []
none-pass t k zero h = refl
none-pass t k (suc n) h = let e = h k (omega arith) (omega arith) in rw e (none-pass t (suc k) n (λ j l m. h j (omega arith) (omega arith)))

pub between : (t : ℕ → Bool) (n from to : ℕ) → from ≤ to → to ≤ n → ((j : ℕ) → j < from → t j ≡ false) → ((j : ℕ) → to ≤ j → j < n → t j ≡ false) →
    filter t (numbers 0 n) ≡ filter t (numbers from (to - from))
between t n from to h l a b =
    let e = numbers-split 0 from (n - from) n (omega arith) in
    let f : 0 + from ≡ from = omega arith in
    let g = numbers-split from (to - from) (n - to) (n - from) (omega arith) in
    let k : from + (to - from) ≡ to = omega arith in
    let x = none-pass t 0 from (λ j p q. a j (omega arith)) in
    let y = none-pass t to (n - to) (λ j p q. b j p (omega arith)) in
    ap (filter t) e
    ∙ filter-append t (numbers 0 from) (numbers (0 + from) (n - from))
    ∙ ap (λ z. z ++ filter t (numbers (0 + from) (n - from))) x
    ∙ ap (λ z. filter t (numbers z (n - from))) f
    ∙ ap (filter t) g
    ∙ filter-append t (numbers from (to - from)) (numbers (from + (to - from)) (n - to))
    ∙ ap (λ z. filter t (numbers from (to - from)) ++ filter t (numbers z (n - to))) k
    ∙ ap (λ z. filter t (numbers from (to - from)) ++ z) y
    ∙ append-nil (filter t (numbers from (to - from)))

pub numbers-more : (j to : ℕ) → j < to → numbers j (to - j) ≡ j ∷ numbers (j + 1) (to - (j + 1))
numbers-more j to h = let e = numbers-split j 1 (to - (j + 1)) (to - j) (omega arith) in e

pub count-more : (t : ℕ → Bool) (j to : ℕ) → j < to → length (filter t (numbers j (to - j))) ≡ (if t j then 1 else 0) + length (filter t (numbers (j + 1) (to - (j + 1))))
count-more t j to h =
    ap (λ z. length (filter t z)) (numbers-more j to h)
    ∙ ⊎_elim (λ (e : t j ≡ true). rw e (omega arith)) (λ (e : t j ≡ false). rw e (omega arith)) (cases_Bool (t j))

pub no-join : (lim : Limits) (gs : List Group) (i j : ℕ) → (lba_of (group_in gs i) + size (group_in gs i) ≡ lba_of (group_in gs j) → ⊥) → may_join lim gs i j ≡ false
no-join lim gs i j ne =
    let e : eqb (lba_of (group_in gs i) + size (group_in gs i)) (lba_of (group_in gs j)) ≡ false = ne_eqb (lba_of (group_in gs i) + size (group_in gs i)) (lba_of (group_in gs j)) ne in
    and_right (not (eqb i j)) (may_follow lim (group_in gs i) (group_in gs j))
    (and_right (same_dir (dir_of (group_in gs i)) (dir_of (group_in gs j))) _ (and_left (eqb (lba_of (group_in gs i) + size (group_in gs i)) (lba_of (group_in gs j))) _ e))

-- the groups behind group i, in one fact
pub behind-whole : (room : ℕ) (es : List Entry) (bios : List Bio) (next : List ℕ) (free left : ℕ) (q : Queued) (begins begins₁ begins₂ : List ℕ) (i from to : ℕ) (e : Entry) →
    IsIndex room es bios next free left → record { groups = groups_of es bios next; room = room } ≡ q → begins ≡ map (λ (d : Entry). d.lba) es → i < length es → e ≡ get_or es i e → begins₁ ≡ begins → begins₂ ≡ begins → from ≤ length begins₁ → to ≤ length begins₂ →
    ((k d : ℕ) → k < from → get_or begins₁ k d < e.lba + e.blocks) → ((k d : ℕ) → to ≤ k → k < length begins₂ → e.lba + e.blocks < get_or begins₂ k d) →
    (from ≤ to) × ((lim : Limits) → followers lim q.groups i ≡ filter (may_join lim q.groups i) (numbers from (to - from)))
behind-whole room es bios next free left q begins begins₁ begins₂ i from to e s v bg h g e₁ e₂ l₁ m a b =
    let gq : groups_of es bios next ≡ q.groups = ap (λ (w : Queued). w.groups) v in
    (ordered, λ lim. rw (← gq) (inner lim))
  where
    ordered : from ≤ to
    ordered =
        ⊎_elim
        (λ (k : to < from). let y = (rw e₁ at a) to 0 k in let z = (rw e₂ at b) to 0 (omega arith) (let w : from ≤ length begins = rw e₁ at l₁ in omega arith) in absurd (omega arith))
        (λ (k : from ≤ to). k)
        (cases_lt to from)

    starts-long : length begins ≡ length es
    starts-long = ap length bg ∙ length-map es (λ (d : Entry). d.lba)

    within : to ≤ length es
    within = let w : to ≤ length begins = rw e₂ at m in omega (arith, starts-long)

    long : length (groups_of es bios next) ≡ length es
    long = length-map es (group_at bios next)

    here : Describes e (group_in (groups_of es bios next) i)
    here = let k = known room es bios next free left i e s h g in subst (Describes e) (sym k.group) k.stands.describes

    there : (j : ℕ) → j < length es → get_or begins j 0 ≡ lba_of (group_in (groups_of es bios next) j)
    there j k = ap (λ z. get_or z j 0) bg ∙ get_or-map (λ (d : Entry). d.lba) es j e 0 k ∙ (s.stands j e k).describes.lba ∙ ap lba_of (sym (get_or-map (group_at bios next) es j e [] k))

    low : (j : ℕ) → j < from → lba_of (group_in (groups_of es bios next) i) + size (group_in (groups_of es bios next) i) ≡ lba_of (group_in (groups_of es bios next) j) → ⊥
    low j k c =
        let d = there j (omega (arith, within, ordered)) in
        let y = (rw e₁ at a) j 0 k in
        let p = here.lba in let r = here.blocks in omega arith

    high : (j : ℕ) → to ≤ j → j < length (groups_of es bios next) → lba_of (group_in (groups_of es bios next) i) + size (group_in (groups_of es bios next) i) ≡ lba_of (group_in (groups_of es bios next) j) → ⊥
    high j k z c =
        let d = there j (omega (arith, long)) in
        let y = (rw e₂ at b) j 0 k (omega (arith, long, starts-long)) in
        let p = here.lba in let r = here.blocks in omega arith

    inner : (lim : Limits) → followers lim (groups_of es bios next) i ≡ filter (may_join lim (groups_of es bios next) i) (numbers from (to - from))
    inner lim =
        between (may_join lim (groups_of es bios next) i) (length (groups_of es bios next)) from to ordered (omega (arith, long, within))
        (λ j k. no-join lim (groups_of es bios next) i j (low j k))
        (λ j k z. no-join lim (groups_of es bios next) i j (high j k z))

pub one-or-none : (b : Bool) → (if b then 1 else 0) ≤ 1
one-or-none true = omega arith
one-or-none false = omega arith

-- ---- all pairs

abbrev pub row : Limits → List Group → ℕ → List (ℕ × ℕ)
row lim q i = map (λ j. (i, j)) (followers lim q i)

pub length-row : (lim : Limits) (q : List Group) (i : ℕ) → length (row lim q i) ≡ length (followers lim q i)
length-row lim q i = length-map (followers lim q i) (λ j. (i, j))

pub pairs-more : (lim : Limits) (q : List Group) (i : ℕ) → length (pairs_below lim q (i + 1)) ≡ length (pairs_below lim q i) + length (followers lim q i)
pairs-more lim q i =
    let e = numbers-split 0 i 1 (i + 1) refl in
    let z : 0 + i ≡ i = omega arith in
    ap (λ w. length (flat_map (row lim q) w)) (e ∙ ap (λ w. numbers 0 i ++ numbers w 1) z)
    ∙ ap length (flat_map-append (row lim q) (numbers 0 i) (i ∷ []))
    ∙ length-append (flat_map (row lim q) (numbers 0 i)) (row lim q i ++ [])
    ∙ (let a = ap length (append-nil (row lim q i)) in let b = length-row lim q i in omega arith)

passes-first : (t : ℕ → Bool) (j to : ℕ) → j < to → t j ≡ true → filter t (numbers j (to - j)) ≡ j ∷ filter t (numbers (j + 1) (to - (j + 1)))
passes-first t j to h e = ap (filter t) (numbers-more j to h) ∙ rw e refl

fails-first : (t : ℕ → Bool) (j to : ℕ) → j < to → t j ≡ false → filter t (numbers j (to - j)) ≡ filter t (numbers (j + 1) (to - (j + 1)))
fails-first t j to h e = ap (filter t) (numbers-more j to h) ∙ rw e refl

-- the element of this number among those that pass
pub record Picks (t : ℕ → Bool) (j to left : ℕ) (k to' less : ℕ) : Type 0 where
  pub same : get_or (filter t (numbers k (to' - k))) less 0 ≡ get_or (filter t (numbers j (to - j))) left 0
  pub within : left < length (filter t (numbers j (to - j))) → less < length (filter t (numbers k (to' - k)))

pub found : (t : ℕ → Bool) (j to left : ℕ) → j < to → t j ≡ true → left ≡ 0 → get_or (filter t (numbers j (to - j))) left 0 ≡ j
found t j to left h e z = rw (z) (ap (λ w. get_or w 0 0) (passes-first t j to h e))

pub next-passed : (t : ℕ → Bool) (j to left : ℕ) → j < to → t j ≡ true → 1 ≤ left → Picks t j to left (j + 1) to (left - 1)
next-passed t j to zero h e z = absurd (omega arith)
next-passed t j to (suc left) h e z =
    let p = passes-first t j to h e in
    let m : suc left - 1 ≡ left = omega arith in
    let a = ap (λ w. get_or w (suc left) 0) p in
    let b = ap length p in
    record { same = rw m (sym a); within = λ k. omega arith }

pub next-failed : (t : ℕ → Bool) (j to left : ℕ) → j < to → t j ≡ false → Picks t j to left (j + 1) to left
next-failed t j to left h e =
    let p = fails-first t j to h e in
    let b = ap length p in
    record { same = sym (ap (λ w. get_or w left 0) p); within = λ k. omega arith }

rows-first : (lim : Limits) (q : List Group) (i n : ℕ) → i < n → flat_map (row lim q) (numbers i (n - i)) ≡ row lim q i ++ flat_map (row lim q) (numbers (i + 1) (n - (i + 1)))
rows-first lim q i n h = ap (flat_map (row lim q)) (numbers-more i n h)

-- the row of group i, and the rows behind it
pub rows-length : (lim : Limits) (q : List Group) (i n : ℕ) → i < n → length (flat_map (row lim q) (numbers i (n - i))) ≡ length (followers lim q i) + length (flat_map (row lim q) (numbers (i + 1) (n - (i + 1))))
rows-length lim q i n h =
    let a = ap length (rows-first lim q i n h) in
    let b = length-append (row lim q i) (flat_map (row lim q) (numbers (i + 1) (n - (i + 1)))) in
    let c = length-row lim q i in
    omega arith

pub pair-found : (lim : Limits) (q : List Group) (i n left : ℕ) → i < n → left < length (followers lim q i) →
    get_or (flat_map (row lim q) (numbers i (n - i))) left (0, 0) ≡ (i, get_or (followers lim q i) left 0)
pair-found lim q i n left h l =
    let r = length-row lim q i in
    ap (λ w. get_or w left (0, 0)) (rows-first lim q i n h)
    ∙ get_or_append_left (row lim q i) (flat_map (row lim q) (numbers (i + 1) (n - (i + 1)))) (0, 0) left (omega arith)
    ∙ get_or-map (λ j. (i, j)) (followers lim q i) left 0 (0, 0) l

pub pair-later : (lim : Limits) (q : List Group) (i n left : ℕ) → i < n → length (followers lim q i) ≤ left →
    (get_or (flat_map (row lim q) (numbers (i + 1) (n - (i + 1)))) (left - length (followers lim q i)) (0, 0) ≡ get_or (flat_map (row lim q) (numbers i (n - i))) left (0, 0))
    × (left < length (flat_map (row lim q) (numbers i (n - i))) → left - length (followers lim q i) < length (flat_map (row lim q) (numbers (i + 1) (n - (i + 1)))))
pair-later lim q i n left h l =
    let r = length-row lim q i in
    let e = rows-first lim q i n h in
    let a = ap length e in
    let b = length-append (row lim q i) (flat_map (row lim q) (numbers (i + 1) (n - (i + 1)))) in
    (sym (ap (λ w. get_or w left (0, 0)) e ∙ get_or-append_right (row lim q i) (flat_map (row lim q) (numbers (i + 1) (n - (i + 1)))) (length (followers lim q i)) left (0, 0) r l), λ k. omega arith)
