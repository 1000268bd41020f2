-- What becomes of an index over chains as groups are put, joined and taken.
use Rattle.std.proofs.Common.{◌≡◌, ℕ, zero, suc, ◌+◌, ◌-◌, ◌^◌, ◌<◌, ◌≤◌, true, false, List, [], ◌∷◌, ◌++◌, length, get_or, set, take, drop, refl, sym, ap, ◌∙◌, subst, ⊎_elim, arith, length-append, append-nil}
use Rattle.std.specs.Prelude.{nat_lt}
use Rattle.std.specs.List.{insert, remove}
use Rattle.std.specs.List.Sorted.{IsNonDecreasingBy}
use Rattle.std.proofs.lemmas.Bool.{lt-ltb, le-ltb, cases_eq, cases_lt}
use Rattle.std.proofs.lemmas.List.{get_or-set_same, get_or-set_other, get_or_default, get_or-map, length-map, length-set, take_all, drop_all}
use Rattle.std.proofs.lemmas.List.Edits.{get_or-remove_below, get_or-remove_above, length-remove}
use Rattle.std.proofs.lemmas.List.Sorted.{IsNonDecreasingBy-insert}
use Rattle.bio_core.specs.declared.bio.Bio.{Bio}
use Rattle.merge_queue.specs.declared.entries.Entry.{Entry}
use Rattle.merge_queue.specs.Chains.{after, path, bios_at, filled, times}
use Rattle.merge_queue.specs.Groups.{Group, lba_of, dir_of, segs_of, pi_segs_of, size, put, without, joined, group_in, numbers}
use Rattle.merge_queue.specs.Index.{Queued, group_at, groups_of, use_of, Describes, Stands, IsIndex, both}
use Rattle.merge_queue.proofs.Lists.{total-insert, total-without, total-one, total-set, total-gone, map-set, map-gone, map-without, map-insert, all-insert, all-set, all-gone, without-remove}
use Rattle.merge_queue.proofs.Linking.{length-path, path-more, times-append, times-less, path-set, after-set, linked, after-linked, bios_at-append, bios_at-other, bios_at-filled, length-filled, path-of_one, times-numbers, length-numbers}
use Rattle.merge_queue.proofs.Index.{allowed, once, known, alone}

-- the index that is left, and what it shows
pub record Shows (room : ℕ) (es : List Entry) (bios : List Bio) (next : List ℕ) (free left : ℕ) (gs : List Group) : Type 0 where
  pub index : IsIndex room es bios next free left
  pub groups : groups_of es bios next ≡ gs

-- ---- sorted still

rising-remove : (es : List Entry) (i : ℕ) → i < length es → IsNonDecreasingBy (λ (e : Entry). e.lba) es → IsNonDecreasingBy (λ (e : Entry). e.lba) (remove es i)
rising-remove es i h r a b d l m =
    let n = length-remove es i h in
    ⊎_elim
    (λ (p : b < i).
    let e = get_or-remove_below es i d a (omega arith) h in
    let f = get_or-remove_below es i d b p h in
    let g = r a b d l (omega arith) in
    rw (e, f) g)
    (λ (p : i ≤ b).
    let f = get_or-remove_above es i d b p h in
    ⊎_elim
    (λ (q : a < i). let e = get_or-remove_below es i d a q h in let g = r a (b + 1) d (omega arith) (omega arith) in rw (e, f) g)
    (λ (q : i ≤ a). let e = get_or-remove_above es i d a q h in let g = r (a + 1) (b + 1) d (omega arith) (omega arith) in rw (e, f) g)
    (cases_lt a i))
    (cases_lt b i)

lba-set : (es : List Entry) (i : ℕ) (e : Entry) (a : ℕ) (d : Entry) → i < length es → e.lba ≡ (get_or es i d).lba → (get_or (set es i e) a d).lba ≡ (get_or es a d).lba
lba-set es i e a d h q =
    ⊎_elim
    (λ (p : a ≡ i). let s : get_or (set es i e) a d ≡ e = ap (λ k. get_or (set es i e) k d) p ∙ get_or-set_same es i e d h in let t = ap (λ k. (get_or es k d).lba) p in ap (λ (x : Entry). x.lba) s ∙ q ∙ sym t)
    (λ (n : a ≡ i → ⊥). ap (λ (x : Entry). x.lba) (get_or-set_other es i a e d n))
    (cases_eq a i)

rising-set : (es : List Entry) (i : ℕ) (e : Entry) → i < length es → ((d : Entry) → e.lba ≡ (get_or es i d).lba) → IsNonDecreasingBy (λ (e : Entry). e.lba) es → IsNonDecreasingBy (λ (e : Entry). e.lba) (set es i e)
rising-set es i e h q r a b d l m =
    let n = length-set es i e in
    let x = lba-set es i e a d h (q d) in
    let y = lba-set es i e b d h (q d) in
    let g = r a b d l (omega arith) in
    omega arith

-- ---- a link is set behind the last place of a group

-- another group's chain stays
keeps : (bios : List Bio) (next : List ℕ) (l v : ℕ) (e : Entry) → use_of next l e ≡ 0 → Stands bios next e → Stands bios (set next l v) e
keeps bios next l v e h s =
    let a = times-less next l e.first (e.bios - 1) e.bios (omega arith) in
    record {
      describes = subst (λ ps. Describes e (bios_at bios ps)) (sym (path-set next l v e.first e.bios h)) s.describes;
      last = s.last ∙ sym (after-set next l v e.first (e.bios - 1) (omega arith));
    }

-- the group's chain goes on with another
goes-on : (next : List ℕ) (e : Entry) (b n room : ℕ) → length next ≡ room → e.last < room → 1 ≤ e.bios → e.last ≡ after next e.first (e.bios - 1) → times e.last (path next e.first (e.bios - 1)) ≡ 0 → times e.last (path next b n) ≡ 0 →
    (path (set next e.last b) e.first (e.bios + n) ≡ path next e.first e.bios ++ path next b n) × (1 ≤ n → times e.last (path next b (n - 1)) ≡ 0 → after (set next e.last b) e.first (e.bios + n - 1) ≡ after next b (n - 1))
goes-on next e b n room g w some last before other =
    let m : suc (e.bios - 1) ≡ e.bios = omega arith in (
      subst (λ k. path (set next e.last b) e.first (k + n) ≡ path next e.first k ++ path next b n) m (linked next e.last e.first (e.bios - 1) b n last (omega arith) before other),
      λ h o. (let k : suc (e.bios - 1) + (n - 1) ≡ e.bios + n - 1 = omega arith in ap (after (set next e.last b) e.first) (sym k) ∙ after-linked next e.last e.first (e.bios - 1) b (n - 1) last (omega arith) before o),
    )

-- ---- a group is taken

pub take-whole : (room : ℕ) (es es' : List Entry) (bios : List Bio) (next : List ℕ) (free left i : ℕ) (q : Queued) (e : Entry) →
    IsIndex room es bios next free left → record { groups = groups_of es bios next; room = room } ≡ q → i < length es → e ≡ get_or es i e → es' ≡ remove es i →
    Shows room es' bios (set next e.last free) e.first (left + e.bios) (without i q.groups)
take-whole room es es' bios next free left i q e s v h p r =
    let k = known room es bios next free left i e s h p in
    let o = alone room es bios next free left i e s h p in
    let w = sym (without-remove es i h) in
    let es-is : without i es ≡ es' = without-remove es i h ∙ sym r in
    let g = goes-on next e free left room s.next_long k.last k.stands.describes.some k.stands.last o.before o.apart in
    let n : left + e.bios ≡ e.bios + left = omega arith in
    let chain : path (set next e.last free) e.first (left + e.bios) ≡ path next e.first e.bios ++ path next free left = ap (path (set next e.last free) e.first) n ∙ g.0 in
    let same : (j : ℕ) → j < length es → (j ≡ i → ⊥) → path (set next e.last free) (get_or es j e).first (get_or es j e).bios ≡ path next (get_or es j e).first (get_or es j e).bios =
    (λ j l ne. path-set next e.last free (get_or es j e).first (get_or es j e).bios (o.others j e l ne)) in
    let shows : groups_of (without i es) bios (set next e.last free) ≡ without i q.groups =
    map-gone (group_at bios (set next e.last free)) (group_at bios next) es i e h (λ j l ne. ap (bios_at bios) (same j l ne)) ∙ ap (λ (z : Queued). without i z.groups) v in
    let index : IsIndex room (without i es) bios (set next e.last free) e.first (left + e.bios) = record {
      stands = all-gone (Stands bios (set next e.last free)) es i (λ j d l ne. keeps bios next e.last free (get_or es j d) (o.others j d l ne) (s.stands j d l));
      once = λ x.
          (let a = total-gone (use_of (set next e.last free) x) (use_of next x) es i e h (λ j l ne. ap (times x) (same j l ne)) in
          let b = ap (times x) chain in
          let c = times-append x (path next e.first e.bios) (path next free left) in
          let d = ap (use_of next x) p in
          let f = s.once x in
          omega arith);
      whole = (let a = total-without (λ d. d.bios) es i e h in let b = ap (λ (d : Entry). d.bios) p in let c = s.whole in omega arith);
      bios_long = s.bios_long;
      next_long = length-set next e.last free ∙ s.next_long;
      rising = subst (IsNonDecreasingBy (λ (d : Entry). d.lba)) w (rising-remove es i h s.rising);
      small = s.small;
    } in
    subst (λ z. Shows room z bios (set next e.last free) e.first (left + e.bios) (without i q.groups)) es-is (record { index = index; groups = shows })

-- ---- two groups become one

pub size-append : (xs ys : List Bio) → size (xs ++ ys) ≡ size xs + size ys
size-append [] ys = omega arith
size-append (b ∷ xs) ys = let e = size-append xs ys in omega arith

segs-append : (xs ys : List Bio) → segs_of (xs ++ ys) ≡ segs_of xs + segs_of ys
segs-append [] ys = omega arith
segs-append (b ∷ xs) ys = let e = segs-append xs ys in omega arith

pi_segs-append : (xs ys : List Bio) → pi_segs_of (xs ++ ys) ≡ pi_segs_of xs + pi_segs_of ys
pi_segs-append [] ys = omega arith
pi_segs-append (b ∷ xs) ys = let e = pi_segs-append xs ys in omega arith

heads : (g h : Group) → 1 ≤ length g → (lba_of (g ++ h) ≡ lba_of g) × (dir_of (g ++ h) ≡ dir_of g)
heads [] h l = absurd (omega arith)
heads (b ∷ g) h l = (refl, refl)

both-describes : (x y : Entry) (g h : Group) → Describes x g → Describes y h → lba_of g + size g ≡ lba_of h → Describes (both x y) (g ++ h)
both-describes x y g h a b e =
    let l = length-append g h in
    let s = size-append g h in
    let t = segs-append g h in
    let u = pi_segs-append g h in
    let ab = a.bios in
    let ao = a.some in
    let k = heads g h (omega arith) in
    let k₀ = k.0 in
    let al = a.lba in
    let bl = b.lba in
    let be = b.ends in
    let as' = a.blocks in
    let bs' = b.blocks in
    record {
      some = omega arith;
      bios = omega (arith, b.bios);
      lba = omega arith;
      dir = a.dir ∙ sym k.1;
      blocks = omega arith;
      segs = omega (arith, a.segs, b.segs);
      pi_segs = omega (arith, a.pi_segs, b.pi_segs);
      ends = omega arith;
      few_blocks = omega (arith, a.few_blocks, b.few_blocks);
      few_segs = omega (arith, a.few_segs, b.few_segs);
      few_pi_segs = omega (arith, a.few_pi_segs, b.few_pi_segs);
    }

pub join-whole : (room : ℕ) (es es' : List Entry) (bios : List Bio) (next : List ℕ) (free left i j : ℕ) (q : Queued) (a b : Entry) →
    IsIndex room es bios next free left → record { groups = groups_of es bios next; room = room } ≡ q → i < length es → j < length es → (i ≡ j → ⊥) → a ≡ get_or es i a → b ≡ get_or es j b →
    lba_of (group_in q.groups i) + size (group_in q.groups i) ≡ lba_of (group_in q.groups j) → es' ≡ remove (set es i (both a b)) j →
    Shows room es' bios (set next a.last b.first) free left (joined q.groups i j)
join-whole room es es' bios next free left i j q a b s v h l ne p r t u =
    let gq : groups_of es bios next ≡ q.groups = ap (λ (z : Queued). z.groups) v in
    let ka = known room es bios next free left i a s h p in
    let kb = known room es bios next free left j b s l r in
    let o = alone room es bios next free left i a s h p in
    let ji : j ≡ i → ⊥ = (λ z. ne (sym z)) in
    let next' = set next a.last b.first in
    let bj : get_or es j a ≡ b = get_or_default es j a b l ∙ sym r in
    let ob : use_of next a.last b ≡ 0 = ap (use_of next a.last) (sym bj) ∙ o.others j a l ji in
    let ob₁ = times-less next a.last b.first (b.bios - 1) b.bios (omega arith) in
    let some = kb.stands.describes.some in
    let on = goes-on next a b.first b.bios room s.next_long ka.last ka.stands.describes.some ka.stands.last o.before ob in
    let same : (k : ℕ) → k < length es → (k ≡ i → ⊥) → path next' (get_or es k a).first (get_or es k a).bios ≡ path next (get_or es k a).first (get_or es k a).bios =
    (λ k m n. path-set next a.last b.first (get_or es k a).first (get_or es k a).bios (o.others k a m n)) in
    let one : group_at bios next' (both a b) ≡ group_at bios next a ++ group_at bios next b = ap (bios_at bios) on.0 ∙ bios_at-append bios (path next a.first a.bios) (path next b.first b.bios) in
    let begins : lba_of (group_at bios next a) + size (group_at bios next a) ≡ lba_of (group_at bios next b) =
    sym (ap (λ g. lba_of g + size g) (sym (ap (λ gs. group_in gs i) gq) ∙ ka.group)) ∙ t ∙ ap lba_of (sym (ap (λ gs. group_in gs j) gq) ∙ kb.group) in
    let stands : Stands bios next' (both a b) = record {
      describes = subst (Describes (both a b)) (sym one) (both-describes a b (group_at bios next a) (group_at bios next b) ka.stands.describes kb.stands.describes begins);
      last = kb.stands.last ∙ sym (on.1 some (omega arith));
    } in
    let ys = set es i (both a b) in
    let long : length ys ≡ length es = length-set es i (both a b) in
    let yj : get_or ys j a ≡ b = get_or-set_other es i j (both a b) a ji ∙ bj in
    let free-same : path next' free left ≡ path next free left = path-set next a.last b.first free left o.apart in
    let shows : groups_of (without j ys) bios next' ≡ joined q.groups i j =
    map-without (group_at bios next') ys j
    ∙ ap (without j) (map-set (group_at bios next') (group_at bios next) es i (both a b) a h (λ k m n. ap (bios_at bios) (same k m n)))
    ∙ ap (λ g. without j (set (groups_of es bios next) i g)) (one ∙ ap (λ g. g ++ group_at bios next b) (sym ka.group) ∙ ap (λ g. group_in (groups_of es bios next) i ++ g) (sym kb.group))
    ∙ ap (λ gs. joined gs i j) gq in
    let index : IsIndex room (without j ys) bios next' free left = record {
      stands = all-gone (Stands bios next') ys j
          (λ k d m n. all-set (Stands bios next') es i (both a b) stands (λ k' d' m' n'. keeps bios next a.last b.first (get_or es k' d') (o.others k' d' m' n') (s.stands k' d' m')) k d m);
      once = λ x.
          (let c = total-set (use_of next' x) (use_of next x) es i (both a b) a h (λ k m n. ap (times x) (same k m n)) in
          let d = total-without (use_of next' x) ys j a (omega arith) in
          let e = ap (use_of next' x) yj in
          let f = ap (times x) (path-set next a.last b.first b.first b.bios ob) in
          let g = ap (times x) on.0 in
          let g₁ = times-append x (path next a.first a.bios) (path next b.first b.bios) in
          let k = ap (use_of next x) p in
          let m = ap (times x) free-same in
          let n = s.once x in
          omega arith);
      whole =
          (let c = total-set (λ d. d.bios) (λ d. d.bios) es i (both a b) a h (λ k m n. refl) in
          let d = total-without (λ d. d.bios) ys j a (omega arith) in
          let e = ap (λ (z : Entry). z.bios) yj in
          let f = ap (λ (z : Entry). z.bios) p in
          let g = s.whole in
          omega arith);
      bios_long = s.bios_long;
      next_long = length-set next a.last b.first ∙ s.next_long;
      rising = subst (IsNonDecreasingBy (λ (d : Entry). d.lba)) (sym (without-remove ys j (omega arith)))
          (rising-remove ys j (omega arith) (rising-set es i (both a b) h (λ z. ap (λ (w : Entry). w.lba) (p ∙ get_or_default es i a z h)) s.rising));
      small = s.small;
    } in
    subst (λ z. Shows room z bios next' free left (joined q.groups i j)) (without-remove ys j (omega arith) ∙ sym u) (record { index = index; groups = shows })

-- ---- a group is put

pub put-at : (g : Group) (gs : List Group) (at : ℕ) → at ≤ length gs → ((k : ℕ) → k < at → lba_of (get_or gs k []) ≤ lba_of g) → (at < length gs → lba_of g < lba_of (get_or gs at [])) →
    put g gs ≡ insert gs at g
put-at g [] zero l b a = refl
put-at g [] (suc at) l b a = absurd (omega arith)
put-at g (h ∷ hs) zero l b a = let e : nat_lt (lba_of g) (lba_of h) ≡ true = lt-ltb (lba_of g) (lba_of h) (a (omega arith)) in rw e refl
put-at g (h ∷ hs) (suc at) l b a =
    let e : nat_lt (lba_of g) (lba_of h) ≡ false = le-ltb (lba_of g) (lba_of h) (b 0 (omega arith)) in
    rw e (ap (λ z. h ∷ z) (put-at g hs at (omega arith) (λ k m. b (suc k) (omega arith)) (λ m. a (omega arith))))

put-shows : (room : ℕ) (es : List Entry) (bios : List Bio) (next : List ℕ) (free left at : ℕ) (e : Entry) (run : List Bio) →
    IsIndex room es bios next free left → at ≤ length es →
    ((k : ℕ) (d : Entry) → k < at → (get_or es k d).lba ≤ e.lba) → ((k : ℕ) (d : Entry) → at ≤ k → k < length es → e.lba < (get_or es k d).lba) →
    Describes e run → e.first ≡ free → e.last ≡ after next free (length run - 1) → length run ≤ left →
    Shows room (insert es at e) (filled (path next free (length run)) run bios) next (after next free (length run)) (left - length run) (put run (groups_of es bios next))
put-shows room es bios next free left at e run s w b a d f l m =
    let n = length run in
    let ps = path next free (length run) in
    let bios' = filled ps run bios in
    let nb = d.bios in
    let whole : length run + (left - length run) ≡ left = omega arith in
    let chain : path next free left ≡ ps ++ path next (after next free (length run)) (left - length run) = ap (path next free) (sym whole) ∙ path-more next free (length run) (left - length run) in
    let used : (x : ℕ) → times x (path next free left) ≡ times x ps + times x (path next (after next free (length run)) (left - length run)) =
    (λ x. ap (times x) chain ∙ times-append x ps (path next (after next free (length run)) (left - length run))) in
    let own : path next e.first e.bios ≡ ps = ap (λ k. path next k e.bios) f ∙ ap (path next free) (sym nb) in
    let new : group_at bios' next e ≡ run =
    ap (bios_at bios') own
    ∙ bios_at-filled ps run bios (sym (length-path next free (length run))) (λ x. (let o = once room es bios next free left s x in let u = used x in omega arith))
    (λ x h. (let o = s.once x in let u = used x in let c = (allowed x room).1 (omega arith) in let g = s.bios_long in omega arith)) in
    let same : (k : ℕ) (c : Entry) → k < length es → group_at bios' next (get_or es k c) ≡ group_at bios next (get_or es k c) =
    (λ k c h. bios_at-other ps (path next (get_or es k c).first (get_or es k c).bios) run bios
    (λ x. (let o = once room es bios next free left s x in let u = used x in let t = total-one (use_of next x) es k c h in omega arith))) in
    let old : (k : ℕ) (c : Entry) → k < length es → Stands bios' next (get_or es k c) =
    (λ k c h. (let g = s.stands k c h in record { describes = subst (Describes (get_or es k c)) (sym (same k c h)) g.describes; last = g.last })) in
    let long = length-map es (group_at bios next) in
    let shows : groups_of (insert es at e) bios' next ≡ put run (groups_of es bios next) =
    map-insert (group_at bios' next) (group_at bios next) es at e e (λ k h. same k e h)
    ∙ ap (insert (groups_of es bios next) at) new
    ∙ sym (put-at run (groups_of es bios next) at (omega arith)
    (λ k h. (let g = (s.stands k e (omega arith)).describes.lba in let x = ap lba_of (get_or-map (group_at bios next) es k e [] (omega arith)) in let y = b k e h in let z = d.lba in omega arith))
    (λ h. (let g = (s.stands at e (omega arith)).describes.lba in let x = ap lba_of (get_or-map (group_at bios next) es at e [] (omega arith)) in let y = a at e (omega arith) (omega arith) in let z = d.lba in omega arith))) in
    let index : IsIndex room (insert es at e) bios' next (after next free (length run)) (left - length run) = record {
      stands = all-insert (Stands bios' next) es at e (record { describes = subst (Describes e) (sym new) d; last = l ∙ ap (after next free) (ap (λ k. k - 1) nb) ∙ ap (λ k. after next k (e.bios - 1)) (sym f) }) old;
      once = λ x.
          (let t = total-insert (use_of next x) es at e in
          let u = used x in
          let o = ap (times x) own in
          let g = s.once x in
          omega arith);
      whole = (let t = total-insert (λ c. c.bios) es at e in let g = s.whole in omega arith);
      bios_long = length-filled ps run bios ∙ s.bios_long;
      next_long = s.next_long;
      rising = IsNonDecreasingBy-insert (λ (c : Entry). c.lba) es at e s.rising w b (λ k c h g. (let z = a k c h g in omega arith));
      small = s.small;
    } in
    record { index = index; groups = shows }

-- what is written back to the list that a slice was borrowed from
written-back : {A : Type 0} (xs new : List A) (len : ℕ) → len ≡ length xs → length new ≡ length xs → take len (new ++ drop (length new) xs) ≡ new
written-back xs new len h k =
    ap (λ ys. take len (new ++ ys)) (drop_all (length new) xs (omega arith)) ∙ ap (take len) (append-nil new) ∙ take_all len new (omega arith)

pub put-whole : (room : ℕ) (es es' es₁ : List Entry) (bios bios₁ new : List Bio) (next next₁ : List ℕ) (free left at behind len : ℕ) (q : Queued) (e : Entry) (run : List Bio) →
    IsIndex room es bios next free left → record { groups = groups_of es bios next; room = room } ≡ q → es₁ ≡ es → bios₁ ≡ bios → next₁ ≡ next → len ≡ length bios → at ≤ length es₁ →
    ((k : ℕ) (d : Entry) → k < at → (get_or es₁ k d).lba ≤ e.lba) → ((k : ℕ) (d : Entry) → at ≤ k → k < length es₁ → e.lba < (get_or es₁ k d).lba) →
    Describes e run → e.first ≡ free → e.last ≡ after next₁ free (length run - 1) → length run ≤ left →
    behind ≡ after next₁ free (length run) → new ≡ filled (path next₁ free (length run)) run bios₁ → es' ≡ insert es at e →
    Shows room es' (take len (new ++ drop (length new) bios)) next behind (left - length run) (put run q.groups)
put-whole room es es' es₁ bios bios₁ new next next₁ free left at behind len q e run s v eq bq nq lq w b a d f l m be nb ee =
    let p = put-shows room es bios next free left at e run s (rw eq at w) (rw eq at b) (rw eq at a) d f (l ∙ ap (λ z. after z free (length run - 1)) nq) m in
    let g = ap (λ (z : Queued). put run z.groups) v in
    let nb₁ : new ≡ filled (path next free (length run)) run bios = nb ∙ ap (λ z. filled (path z free (length run)) run bios₁) nq ∙ ap (filled (path next free (length run)) run) bq in
    let be₁ : behind ≡ after next free (length run) = be ∙ ap (λ z. after z free (length run)) nq in
    let back = written-back bios new len lq (ap length nb₁ ∙ length-filled (path next free (length run)) run bios) ∙ nb₁ in
    rw (back, ee, be₁) (record { index = p.index; groups = p.groups ∙ g })

-- ---- a new queue

pub new-whole : (room : ℕ) (bios : List Bio) (next : List ℕ) → length bios ≡ room → next ≡ numbers 1 room → room < 2 ^ 32 → IsIndex room [] bios next 0 room
new-whole room bios next h e s =
    rw e (record {
      stands = λ i d l. absurd (omega arith);
      once = λ x.
          (let p = ap (times x) (path-of_one room 0 room (omega arith)) in
          let t = times-numbers x 0 room in
          ⊎_elim
          (λ (l : x < room). let c : nat_lt x room ≡ true = lt-ltb x room l in let b = t.1 in rw c (omega arith))
          (λ (l : room ≤ x). let c : nat_lt x room ≡ false = le-ltb x room l in let b = t.2 (omega arith) in rw c (omega arith))
          (cases_lt x room));
      whole = omega arith;
      bios_long = h;
      next_long = length-numbers 1 room;
      rising = λ i j d k l. absurd (omega arith);
      small = s;
    })
