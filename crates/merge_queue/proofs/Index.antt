-- What an index over chains of bios says of its groups and places.
use Rattle.std.proofs.Common.{◌≡◌, ℕ, suc, ◌+◌, ◌-◌, ◌^◌, ◌<◌, ◌≤◌, true, false, List, [], ◌∷◌, length, get_or, refl, sym, ap, ◌∙◌, subst, ⊎_elim, arith}
use Rattle.std.specs.Prelude.{nat_lt, if◌then◌else◌}
use Rattle.std.proofs.lemmas.Bool.{lt-ltb, le-ltb, cases_lt}
use Rattle.std.proofs.lemmas.List.{get_or_default, get_or-map, length-map}
use Rattle.bio_core.specs.declared.bio.Bio.{Bio}
use Rattle.merge_queue.specs.declared.entries.Entry.{Entry}
use Rattle.merge_queue.specs.Chains.{after, path, times}
use Rattle.merge_queue.specs.Groups.{Group}
use Rattle.merge_queue.specs.Index.{Queued, bios_in, group_at, groups_of, total, use_of, Stands, IsIndex, Fit}
use Rattle.merge_queue.proofs.Lists.{total-one, total-two}
use Rattle.merge_queue.proofs.Linking.{length-path, times-after, last-once, length-bios_at}

-- a place is used at most once, and then it is below the room
pub allowed : (x room : ℕ) → ((if nat_lt x room then 1 else 0) ≤ 1) × (1 ≤ (if nat_lt x room then 1 else 0) → x < room)
allowed x room =
    ⊎_elim
    (λ (h : x < room). let e : nat_lt x room ≡ true = lt-ltb x room h in (rw e (omega arith), λ k. h))
    (λ (h : room ≤ x). let e : nat_lt x room ≡ false = le-ltb x room h in (rw e (omega arith), rw e (λ k. absurd (omega arith))))
    (cases_lt x room)

pub once : (room : ℕ) (es : List Entry) (bios : List Bio) (next : List ℕ) (free left : ℕ) → IsIndex room es bios next free left → (x : ℕ) → total (use_of next x) es + times x (path next free left) ≤ 1
once room es bios next free left s x = let a = s.once x in let b = (allowed x room).0 in omega arith

pub free-inside : (room : ℕ) (es : List Entry) (bios : List Bio) (next : List ℕ) (free left : ℕ) → IsIndex room es bios next free left → (k : ℕ) → k < left → after next free k < room
free-inside room es bios next free left s k l =
    let x = after next free k in
    let a = times-after next free k left l in
    let b = s.once x in
    (allowed x room).1 (omega arith)

-- what is known of the group at place i of the index
pub record Known (room : ℕ) (es : List Entry) (bios : List Bio) (next : List ℕ) (left i : ℕ) (e : Entry) : Type 0 where
  pub stands : Stands bios next e
  pub group : get_or (groups_of es bios next) i [] ≡ group_at bios next e
  pub first : e.first < room
  pub last : e.last < room
  pub few : e.bios + left ≤ room
  pub places : (k : ℕ) → k < e.bios → after next e.first k < room

pub known : (room : ℕ) (es : List Entry) (bios : List Bio) (next : List ℕ) (free left i : ℕ) (e : Entry) → IsIndex room es bios next free left → i < length es → e ≡ get_or es i e →
    Known room es bios next left i e
known room es bios next free left i e s h q =
    let stands : Stands bios next e = subst (Stands bios next) (sym q) (s.stands i e h) in
    let some = stands.describes.some in
    let w = s.whole in
    let one = total-one (λ d. d.bios) es i e h in
    let m = ap (λ (d : Entry). d.bios) q in
    let inside : (k : ℕ) → k < e.bios → after next e.first k < room = (λ k l.
    (let x = after next e.first k in
    let a = times-after next e.first k e.bios l in
    let b = total-one (use_of next x) es i e h in
    let c = ap (use_of next x) q in
    let d = s.once x in
    (allowed x room).1 (omega arith))) in
    record {
      stands = stands;
      group = get_or-map (group_at bios next) es i e [] h ∙ ap (group_at bios next) (sym q);
      first = inside 0 (omega arith);
      last = subst (λ l. l < room) (sym stands.last) (inside (e.bios - 1) (omega arith));
      few = omega arith;
      places = inside;
    }

-- the last place of a group stands nowhere else
pub record Alone (es : List Entry) (next : List ℕ) (free left i : ℕ) (e : Entry) : Type 0 where
  pub others : (k : ℕ) (d : Entry) → k < length es → (k ≡ i → ⊥) → use_of next e.last (get_or es k d) ≡ 0
  pub apart : times e.last (path next free left) ≡ 0
  pub before : times e.last (path next e.first (e.bios - 1)) ≡ 0

pub alone : (room : ℕ) (es : List Entry) (bios : List Bio) (next : List ℕ) (free left i : ℕ) (e : Entry) → IsIndex room es bios next free left → i < length es → e ≡ get_or es i e →
    Alone es next free left i e
alone room es bios next free left i e s h q =
    let k = known room es bios next free left i e s h q in
    let some = k.stands.describes.some in
    let m : suc (e.bios - 1) ≡ e.bios = omega arith in
    let o = once room es bios next free left s e.last in
    let one = total-one (use_of next e.last) es i e h in
    let c = ap (use_of next e.last) q in
    let t : 1 ≤ use_of next e.last e = subst (λ l. 1 ≤ times l (path next e.first e.bios)) (sym k.stands.last) (times-after next e.first (e.bios - 1) e.bios (omega arith)) in
    let u : times (after next e.first (e.bios - 1)) (path next e.first (suc (e.bios - 1))) ≤ 1 =
    subst (λ n. times (after next e.first (e.bios - 1)) (path next e.first n) ≤ 1) (sym m) (subst (λ l. times l (path next e.first e.bios) ≤ 1) k.stands.last (omega arith)) in
    record {
      others = λ j d l ne.
          (let two = total-two (use_of next e.last) es i j d h l (λ z. ne (sym z)) in
          let p = ap (use_of next e.last) (get_or_default es i d e h) in
          omega arith);
      apart = omega arith;
      before = subst (λ l. times l (path next e.first (e.bios - 1)) ≡ 0) (sym k.stands.last) (last-once next e.first (e.bios - 1) u);
    }

-- the sizes of what is shown
pub record Sizes (es : List Entry) (gs : List Group) (room left : ℕ) : Type 0 where
  pub bios : bios_in gs + left ≡ room
  pub groups : length gs ≡ length es
  pub few : length es + left ≤ room
  pub small : room < 2 ^ 32

bios-shown : (bios : List Bio) (next : List ℕ) (es : List Entry) → bios_in (groups_of es bios next) ≡ total (λ e. e.bios) es
bios-shown bios next [] = refl
bios-shown bios next (e ∷ es) =
    let a = length-bios_at bios (path next e.first e.bios) in
    let b = length-path next e.first e.bios in
    let c = bios-shown bios next es in
    omega arith

enough : (es : List Entry) → ((i : ℕ) (d : Entry) → i < length es → 1 ≤ (get_or es i d).bios) → length es ≤ total (λ e. e.bios) es
enough [] h = omega arith
enough (e ∷ es) h = let a = h 0 e (omega arith) in let b = enough es (λ i d l. h (suc i) d (omega arith)) in omega arith

pub sizes : (room : ℕ) (es : List Entry) (bios : List Bio) (next : List ℕ) (free left : ℕ) (q : Queued) → IsIndex room es bios next free left →
    record { groups = groups_of es bios next; room = room } ≡ q → Sizes es q.groups room left
sizes room es bios next free left q s v =
    let g = ap (λ (w : Queued). w.groups) v in
    let a = bios-shown bios next es in
    let b = ap bios_in g in
    let c = ap length g in
    let d = length-map es (group_at bios next) in
    let w = s.whole in
    let e = enough es (λ i d l. (s.stands i d l).describes.some) in
    record { bios = omega arith; groups = omega arith; few = omega arith; small = s.small }

-- two groups' sums fit
pub fit : (room : ℕ) (es : List Entry) (bios : List Bio) (next : List ℕ) (free left i j : ℕ) (a b : Entry) → IsIndex room es bios next free left →
    i < length es → j < length es → (i ≡ j → ⊥) → a ≡ get_or es i a → b ≡ get_or es j b → Fit a b
fit room es bios next free left i j a b s h l ne p q =
    let two = total-two (λ e. e.bios) es i j a h l ne in
    let x = (known room es bios next free left i a s h p).stands.describes in
    let y = (known room es bios next free left j b s l q).stands.describes in
    let m = ap (λ (d : Entry). d.bios) p in
    let n = ap (λ (d : Entry). d.bios) (get_or_default es j a b l ∙ sym q) in
    let w = s.whole in
    let k = s.small in
    record { bios = omega arith; blocks = omega (arith, x.few_blocks, y.few_blocks); segs = omega (arith, x.few_segs, y.few_segs); pi_segs = omega (arith, x.few_pi_segs, y.few_pi_segs); ends = x.ends }
