-- The index as it is held, and what becomes of it.
use Rattle.std.proofs.Common.{◌≡◌, ℕ, ◌+◌, ◌-◌, ◌^◌, ◌<◌, ◌≤◌, List, [], ◌++◌, length, get_or, set, take, drop, map, refl, sym, ap, ◌∙◌, subst, arith}
use Rattle.std.specs.List.{insert, remove}
use Rattle.std.specs.List.Sorted.{IsNonDecreasing}
use Rattle.std.proofs.lemmas.List.{get_or-set_same, get_or-set_other, get_or_default, get_or-map, length-map, length-set, set-get_or}
use Rattle.bio_core.specs.declared.bio.Bio.{Bio}
use Rattle.merge_queue.specs.declared.entries.Entry.{Entry}
use Rattle.merge_queue.specs.Chains.{after, path, filled, times}
use Rattle.merge_queue.specs.Groups.{Group, lba_of, size, put, without, joined, group_in, numbers}
use Rattle.merge_queue.specs.Index.{Queued, bios_in, groups_of, use_of, Describes, IsIndex, IsHeld, entries_of, no_entry, both, Fit}
use Rattle.merge_queue.proofs.Lists.{total-one, total-two, map-set, map-without, map-insert, AllOf, all-insert, all-set, all-gone, without-remove}
use Rattle.merge_queue.proofs.Linking.{times-first}
use Rattle.merge_queue.proofs.Index.{once, free-inside, Known, known, fit, sizes}
use Rattle.merge_queue.proofs.Moves.{take-whole, join-whole, put-whole, new-whole}

abbrev pub at_place : List Entry → ℕ → Entry
at_place entries p = get_or entries p no_entry

-- the entry of group i
pub record Found (places : List ℕ) (entries : List Entry) (room i p : ℕ) : Type 0 where
  pub within : i < length (entries_of places entries)
  pub is : at_place entries p ≡ get_or (entries_of places entries) i (at_place entries p)
  pub first : (at_place entries p).first ≡ p
  pub inside : p < room

pub found : (room : ℕ) (begins places : List ℕ) (entries : List Entry) (bios : List Bio) (next : List ℕ) (free left i p : ℕ) → IsHeld room begins places entries bios next free left →
    i < length places → p ≡ get_or places i p → Found places entries room i p
found room begins places entries bios next free left i p h l q =
    let n = length-map places (at_place entries) in
    let m : i < length (entries_of places entries) = omega arith in
    let e : at_place entries p ≡ get_or (entries_of places entries) i (at_place entries p) = ap (at_place entries) q ∙ sym (get_or-map (at_place entries) places i p (at_place entries p) l) in
    let o : (at_place entries p).first ≡ p = ap (λ k. (at_place entries k).first) q ∙ h.own i p l ∙ sym q in
    let k = (known room (entries_of places entries) bios next free left i (at_place entries p) h.index m e).first in
    record { within = m; is = e; first = o; inside = omega arith }

-- the same for an entry that was read
pub read-there : (room : ℕ) (entries : List Entry) (p : ℕ) (e : Entry) → length entries ≡ room → p < room → e ≡ get_or entries p e → at_place entries p ≡ e
read-there room entries p e n l q = get_or_default entries p no_entry e (omega arith) ∙ sym q

pub read : (room : ℕ) (begins places : List ℕ) (entries : List Entry) (bios : List Bio) (next : List ℕ) (free left i p : ℕ) (e : Entry) → IsHeld room begins places entries bios next free left →
    i < length places → p ≡ get_or places i p → e ≡ get_or entries p e → e ≡ get_or (entries_of places entries) i e
read room begins places entries bios next free left i p e h l q r =
    let f = found room begins places entries bios next free left i p h l q in
    subst (λ (d : Entry). d ≡ get_or (entries_of places entries) i d) (read-there room entries p e h.entries_long f.inside r) f.is

pub own-place : (room : ℕ) (begins places : List ℕ) (entries : List Entry) (bios : List Bio) (next : List ℕ) (free left i p : ℕ) (e : Entry) → IsHeld room begins places entries bios next free left →
    i < length places → p ≡ get_or places i p → e ≡ get_or entries p e → p ≡ e.first
own-place room begins places entries bios next free left i p e h l q r =
    let f = found room begins places entries bios next free left i p h l q in
    sym f.first ∙ ap (λ (d : Entry). d.first) (read-there room entries p e h.entries_long f.inside r)

pub known-held : (room : ℕ) (begins places : List ℕ) (entries : List Entry) (bios : List Bio) (next : List ℕ) (free left i p : ℕ) (e : Entry) → IsHeld room begins places entries bios next free left →
    i < length places → p ≡ get_or places i p → e ≡ get_or entries p e → Known room (entries_of places entries) bios next left i e
known-held room begins places entries bios next free left i p e h l q r =
    known room (entries_of places entries) bios next free left i e h.index (found room begins places entries bios next free left i p h l q).within (read room begins places entries bios next free left i p e h l q r)

pub fit-held : (room : ℕ) (begins places : List ℕ) (entries : List Entry) (bios : List Bio) (next : List ℕ) (free left i j p r : ℕ) (a b : Entry) → IsHeld room begins places entries bios next free left →
    i < length places → j < length places → (i ≡ j → ⊥) → p ≡ get_or places i p → r ≡ get_or places j r → a ≡ get_or entries p a → b ≡ get_or entries r b → Fit a b
fit-held room begins places entries bios next free left i j p r a b h l m ne x y u v =
    fit room (entries_of places entries) bios next free left i j a b h.index
    (found room begins places entries bios next free left i p h l x).within (found room begins places entries bios next free left j r h m y).within ne
    (read room begins places entries bios next free left i p a h l x u) (read room begins places entries bios next free left j r b h m y v)

-- two groups have two places, and none of them is free
pub apart : (room : ℕ) (begins places : List ℕ) (entries : List Entry) (bios : List Bio) (next : List ℕ) (free left i j p : ℕ) → IsHeld room begins places entries bios next free left →
    i < length places → j < length places → (i ≡ j → ⊥) → p ≡ get_or places i p → (d : ℕ) → get_or places j d ≡ p → ⊥
apart room begins places entries bios next free left i j p h l m ne q d z =
    let r : get_or places j d ≡ get_or places j (get_or places j d) = sym (get_or_default places j (get_or places j d) d m) in
    let a = found room begins places entries bios next free left i p h l q in
    let b = found room begins places entries bios next free left j (get_or places j d) h m r in
    let two = total-two (use_of next p) (entries_of places entries) i j (at_place entries p) a.within b.within ne in
    let o = once room (entries_of places entries) bios next free left h.index p in
    let s = (known room (entries_of places entries) bios next free left i (at_place entries p) h.index a.within a.is).stands.describes.some in
    let t : 1 ≤ use_of next p (at_place entries p) = subst (λ k. 1 ≤ times k (path next (at_place entries p).first (at_place entries p).bios)) a.first (times-first next (at_place entries p).first (at_place entries p).bios s) in
    let u = ap (use_of next p) a.is in
    let v : use_of next p (at_place entries p) ≡ use_of next p (get_or (entries_of places entries) j (at_place entries p)) =
    ap (λ k. use_of next p (at_place entries k)) (sym z) ∙ ap (use_of next p) b.is ∙ ap (λ k. use_of next p (get_or (entries_of places entries) j (at_place entries k))) z in
    omega arith

pub none-free : (room : ℕ) (begins places : List ℕ) (entries : List Entry) (bios : List Bio) (next : List ℕ) (free left i d : ℕ) → IsHeld room begins places entries bios next free left →
    i < length places → 1 ≤ left → get_or places i d ≡ free → ⊥
none-free room begins places entries bios next free left i d h l some z =
    let r : get_or places i d ≡ get_or places i (get_or places i d) = sym (get_or_default places i (get_or places i d) d l) in
    let a = found room begins places entries bios next free left i (get_or places i d) h l r in
    let e = at_place entries (get_or places i d) in
    let one = total-one (use_of next free) (entries_of places entries) i e a.within in
    let o = once room (entries_of places entries) bios next free left h.index free in
    let s = (known room (entries_of places entries) bios next free left i e h.index a.within a.is).stands.describes.some in
    let t : 1 ≤ use_of next free e = subst (λ k. 1 ≤ times k (path next e.first e.bios)) (a.first ∙ z) (times-first next e.first e.bios s) in
    let u = ap (use_of next free) a.is in
    let v = times-first next free left some in
    omega arith

pub rises : (room : ℕ) (begins places : List ℕ) (entries : List Entry) (bios : List Bio) (next : List ℕ) (free left : ℕ) → IsHeld room begins places entries bios next free left → IsNonDecreasing begins
rises room begins places entries bios next free left h i j d l m =
    let es = entries_of places entries in
    let n = ap length h.begins_of ∙ length-map es (λ (e : Entry). e.lba) in
    let a = ap (λ bs. get_or bs i d) h.begins_of ∙ get_or-map (λ (e : Entry). e.lba) es i no_entry d (omega arith) in
    let b = ap (λ bs. get_or bs j d) h.begins_of ∙ get_or-map (λ (e : Entry). e.lba) es j no_entry d (omega arith) in
    let r = h.index.rising i j no_entry l (omega arith) in
    omega arith

-- the sizes of what is shown
pub record HeldSizes (begins places : List ℕ) (entries : List Entry) (gs : List Group) (room left : ℕ) : Type 0 where
  pub bios : bios_in gs + left ≡ room
  pub groups : length gs ≡ length places
  pub starts : length begins ≡ length places
  pub few : length places + left ≤ room
  pub small : room < 2 ^ 32

pub held-sizes : (room : ℕ) (begins places : List ℕ) (entries : List Entry) (bios : List Bio) (next : List ℕ) (free left : ℕ) (q : Queued) → IsHeld room begins places entries bios next free left →
    record { groups = groups_of (entries_of places entries) bios next; room = room } ≡ q → HeldSizes begins places entries q.groups room left
held-sizes room begins places entries bios next free left q h v =
    let s = sizes room (entries_of places entries) bios next free left q h.index v in
    let n = length-map places (at_place entries) in
    let m = ap length h.begins_of ∙ length-map (entries_of places entries) (λ (e : Entry). e.lba) in
    record { bios = s.bios; groups = omega (arith, s.groups); starts = omega arith; few = omega (arith, s.few); small = s.small }

-- what is held afterwards, and what it shows
pub record Holds (room : ℕ) (begins places : List ℕ) (entries : List Entry) (bios : List Bio) (next : List ℕ) (free left : ℕ) (gs : List Group) : Type 0 where
  pub index : IsHeld room begins places entries bios next free left
  pub groups : groups_of (entries_of places entries) bios next ≡ gs

gone-held : {A B : Type 0} (f : A → B) (xs : List A) (i : ℕ) → i < length xs → map f (remove xs i) ≡ remove (map f xs) i
gone-held f xs i h = let n = length-map xs f in ap (map f) (sym (without-remove xs i h)) ∙ map-without f xs i ∙ without-remove (map f xs) i (omega arith)

pub take-held : (room : ℕ) (begins begins' places places' : List ℕ) (entries : List Entry) (bios : List Bio) (next : List ℕ) (free left i : ℕ) (q : Queued) (p : ℕ) (e : Entry) →
    IsHeld room begins places entries bios next free left → record { groups = groups_of (entries_of places entries) bios next; room = room } ≡ q → i < length places → p ≡ get_or places i p → e ≡ get_or entries p e →
    begins' ≡ remove begins i → places' ≡ remove places i → Holds room begins' places' entries bios (set next e.last free) p (left + e.bios) (without i q.groups)
take-held room begins begins' places places' entries bios next free left i q p e h v l a r b c =
    let f = found room begins places entries bios next free left i p h l a in
    let t : at_place entries p ≡ e = read-there room entries p e h.entries_long f.inside r in
    let es = entries_of places entries in
    let lba = λ (d : Entry). d.lba in
    let w = take-whole room es (remove es i) bios next free left i q (at_place entries p) h.index v f.within f.is refl in
    let g : remove es i ≡ entries_of (remove places i) entries = sym (gone-held (at_place entries) places i l) in
    let held : Holds room (remove begins i) (remove places i) entries bios (set next (at_place entries p).last free) p (left + (at_place entries p).bios) (without i q.groups) = record {
      index = record {
        index = subst (λ k. IsIndex room (entries_of (remove places i) entries) bios (set next (at_place entries p).last free) k (left + (at_place entries p).bios)) f.first
            (subst (λ z. IsIndex room z bios (set next (at_place entries p).last free) (at_place entries p).first (left + (at_place entries p).bios)) g w.index);
        begins_of = ap (λ z. remove z i) h.begins_of ∙ sym (gone-held lba es i f.within) ∙ ap (map lba) g;
        own = subst (AllOf (λ k. (at_place entries k).first ≡ k)) (without-remove places i l) (all-gone (λ k. (at_place entries k).first ≡ k) places i (λ k d m n. h.own k d m));
        entries_long = h.entries_long;
      };
      groups = ap (λ z. groups_of z bios (set next (at_place entries p).last free)) (sym g) ∙ w.groups;
    } in
    rw (b, c) (subst (λ (d : Entry). Holds room (remove begins i) (remove places i) entries bios (set next d.last free) p (left + d.bios) (without i q.groups)) t held)

join-there : (room : ℕ) (begins places : List ℕ) (entries : List Entry) (bios : List Bio) (next : List ℕ) (free left i j : ℕ) (q : Queued) (p r : ℕ) →
    IsHeld room begins places entries bios next free left → record { groups = groups_of (entries_of places entries) bios next; room = room } ≡ q → i < length places → j < length places → (i ≡ j → ⊥) →
    p ≡ get_or places i p → r ≡ get_or places j r → lba_of (group_in q.groups i) + size (group_in q.groups i) ≡ lba_of (group_in q.groups j) →
    Holds room (remove begins j) (remove places j) (set entries p (both (at_place entries p) (at_place entries r))) bios (set next (at_place entries p).last r) free left (joined q.groups i j)
join-there room begins places entries bios next free left i j q p r h v l m ne pi pj behind =
    let f = found room begins places entries bios next free left i p h l pi in
    let g = found room begins places entries bios next free left j r h m pj in
    let es = entries_of places entries in
    let lba = λ (d : Entry). d.lba in
    let y = both (at_place entries p) (at_place entries r) in
    let entries' = set entries p y in
    let next' = set next (at_place entries p).last r in
    let w = join-whole room es (remove (set es i y) j) bios next free left i j q (at_place entries p) (at_place entries r) h.index v f.within g.within ne f.is g.is behind refl in
    let long = h.entries_long in
    let inside : p < length entries = omega (arith, f.inside) in
    let here : at_place entries' p ≡ y = get_or-set_same entries p y no_entry inside in
    let own-place : set places i p ≡ places = ap (set places i) pi ∙ set-get_or places i p in
    let others : (k d : ℕ) → k < length places → (k ≡ i → ⊥) → at_place entries' (get_or places k d) ≡ at_place entries (get_or places k d) =
    (λ k d n o. get_or-set_other entries p (get_or places k d) y no_entry (apart room begins places entries bios next free left i k p h l n (λ z. o (sym z)) pi d)) in
    let now : entries_of places entries' ≡ set es i y =
    ap (λ z. entries_of z entries') (sym own-place) ∙ map-set (at_place entries') (at_place entries) places i p 0 l (λ k n o. others k 0 n o) ∙ ap (set es i) here in
    let same : remove (set es i y) j ≡ entries_of (remove places j) entries' =
    sym (gone-held (at_place entries') places j m ∙ ap (λ z. remove z j) now) in
    let starts : map lba (set es i y) ≡ map lba es =
    map-set lba lba es i y no_entry f.within (λ k n o. refl) ∙ ap (set (map lba es) i) (ap lba f.is ∙ sym (get_or-map lba es i (at_place entries p) 0 f.within)) ∙ set-get_or (map lba es) i 0 in
    let set-long = length-set es i y in
    let owns : AllOf (λ k. (at_place entries' k).first ≡ k) places =
    subst (AllOf (λ k. (at_place entries' k).first ≡ k)) own-place
    (all-set (λ k. (at_place entries' k).first ≡ k) places i p (ap (λ (d : Entry). d.first) here ∙ f.first) (λ k d n o. ap (λ (c : Entry). c.first) (others k d n o) ∙ h.own k d n)) in
    record {
      index = record {
        index = subst (λ k. IsIndex room (entries_of (remove places j) entries') bios (set next (at_place entries p).last k) free left) g.first
            (subst (λ z. IsIndex room z bios (set next (at_place entries p).last (at_place entries r).first) free left) same w.index);
        begins_of = ap (λ z. remove z j) (h.begins_of ∙ sym starts) ∙ sym (gone-held lba (set es i y) j (omega (arith, g.within))) ∙ ap (map lba) same;
        own = subst (AllOf (λ k. (at_place entries' k).first ≡ k)) (without-remove places j m) (all-gone (λ k. (at_place entries' k).first ≡ k) places j (λ k d n o. owns k d n));
        entries_long = length-set entries p y ∙ long;
      };
      groups = ap (λ z. groups_of z bios next') (sym same) ∙ ap (λ k. groups_of (remove (set es i y) j) bios (set next (at_place entries p).last k)) (sym g.first) ∙ w.groups;
    }

pub join-held : (room : ℕ) (begins begins' places places' : List ℕ) (entries : List Entry) (bios : List Bio) (next : List ℕ) (free left i j : ℕ) (q : Queued) (p r : ℕ) (a b y : Entry) →
    IsHeld room begins places entries bios next free left → record { groups = groups_of (entries_of places entries) bios next; room = room } ≡ q → i < length places → j < length places → (i ≡ j → ⊥) →
    p ≡ get_or places i p → r ≡ get_or places j r → a ≡ get_or entries p a → b ≡ get_or entries r b → lba_of (group_in q.groups i) + size (group_in q.groups i) ≡ lba_of (group_in q.groups j) → y ≡ both a b →
    begins' ≡ remove begins j → places' ≡ remove places j → Holds room begins' places' (set entries p y) bios (set next a.last r) free left (joined q.groups i j)
join-held room begins begins' places places' entries bios next free left i j q p r a b y h v l m ne pi pj ea eb behind ey bj qj =
    let f = found room begins places entries bios next free left i p h l pi in
    let g = found room begins places entries bios next free left j r h m pj in
    let c = join-there room begins places entries bios next free left i j q p r h v l m ne pi pj behind in
    rw (ey, bj, qj)
    (subst (λ (d : Entry). Holds room (remove begins j) (remove places j) (set entries p (both a d)) bios (set next a.last r) free left (joined q.groups i j)) (read-there room entries r b h.entries_long g.inside eb)
    (subst (λ (d : Entry). Holds room (remove begins j) (remove places j) (set entries p (both d (at_place entries r))) bios (set next d.last r) free left (joined q.groups i j)) (read-there room entries p a h.entries_long f.inside ea) c))

pub put-held : (room : ℕ) (begins begins' begins₁ places places' : List ℕ) (entries : List Entry) (bios bios₁ new : List Bio) (next next₁ : List ℕ) (free left at behind len : ℕ) (q : Queued) (e : Entry) (run : List Bio) →
    IsHeld room begins places entries bios next free left → record { groups = groups_of (entries_of places entries) bios next; room = room } ≡ q → begins₁ ≡ begins → bios₁ ≡ bios → next₁ ≡ next → len ≡ length bios → at ≤ length begins₁ →
    ((k d : ℕ) → k < at → get_or begins₁ k d ≤ e.lba) → ((k d : ℕ) → at ≤ k → k < length begins₁ → e.lba < get_or begins₁ k d) →
    Describes e run → e.first ≡ free → e.last ≡ after next₁ free (length run - 1) → length run ≤ left →
    behind ≡ after next₁ free (length run) → new ≡ filled (path next₁ free (length run)) run bios₁ → begins' ≡ insert begins at e.lba → places' ≡ insert places at free →
    Holds room begins' places' (set entries free e) (take len (new ++ drop (length new) bios)) next behind (left - length run) (put run q.groups)
put-held room begins begins' begins₁ places places' entries bios bios₁ new next next₁ free left at behind len q e run h v bq cq nq lq w b a d f l m be nb eb ep =
    let es = entries_of places entries in
    let lba = λ (d : Entry). d.lba in
    let begins-long : length begins₁ ≡ length es = ap length (bq ∙ h.begins_of) ∙ length-map es lba in
    let starts : (k : ℕ) (d : Entry) → k < length es → get_or begins₁ k 0 ≡ (get_or es k d).lba = (λ k d n. ap (λ z. get_or z k 0) (bq ∙ h.begins_of) ∙ get_or-map lba es k d 0 n) in
    let p = put-whole room es (insert es at e) es bios bios₁ new next next₁ free left at behind len q e run h.index v refl cq nq lq (omega arith)
    (λ k c n. (let x = starts k c (omega arith) in let y = b k 0 n in omega arith))
    (λ k c n o. (let x = starts k c o in let y = a k 0 n (omega arith) in omega arith))
    d f l m be nb refl in
    let some = d.some in
    let many = d.bios in
    let long = h.entries_long in
    let inside : free < room = free-inside room es bios next free left h.index 0 (omega arith) in
    let entries' = set entries free e in
    let here : at_place entries' free ≡ e = get_or-set_same entries free e no_entry (omega arith) in
    let others : (k c : ℕ) → k < length places → at_place entries' (get_or places k c) ≡ at_place entries (get_or places k c) =
    (λ k c n. get_or-set_other entries free (get_or places k c) e no_entry (none-free room begins places entries bios next free left k c h n (omega arith))) in
    let same : insert es at e ≡ entries_of (insert places at free) entries' = sym (map-insert (at_place entries') (at_place entries) places at free 0 (λ k n. others k 0 n) ∙ ap (insert es at) here) in
    rw (eb, ep) (record {
      index = record {
        index = subst (λ z. IsIndex room z (take len (new ++ drop (length new) bios)) next behind (left - length run)) same p.index;
        begins_of = ap (λ z. insert z at e.lba) h.begins_of ∙ sym (map-insert lba lba es at e no_entry (λ k n. refl)) ∙ ap (map lba) same;
        own = all-insert (λ k. (at_place entries' k).first ≡ k) places at free (ap (λ (c : Entry). c.first) here ∙ f) (λ k c n. ap (λ (x : Entry). x.first) (others k c n) ∙ h.own k c n);
        entries_long = length-set entries free e ∙ long;
      };
      groups = ap (λ z. groups_of z (take len (new ++ drop (length new) bios)) next) (sym same) ∙ p.groups;
    })

pub new-held : (room : ℕ) (entries : List Entry) (bios : List Bio) (next : List ℕ) → length entries ≡ room → length bios ≡ room → next ≡ numbers 1 room → room < 2 ^ 32 → IsHeld room [] [] entries bios next 0 room
new-held room entries bios next g h e s = record { index = new-whole room bios next h e s; begins_of = refl; own = λ i d l. absurd (omega arith); entries_long = g }
