-- Where the groups begin, as it is held: what comes to stand at a place, and what may end where a group begins.
use Rattle.std.proofs.Common.{◌≡◌, ℕ, min, false, not, eqb, ◌+◌, ◌-◌, ◌<◌, ◌≤◌, List, [], length, get_or, sym, ap, ◌∙◌, ⊎_elim, arith}
use Rattle.std.specs.List.{filter, insert}
use Rattle.std.specs.Prelude.{nat_le}
use Rattle.std.proofs.lemmas.Bool.{cases_eq, cases_lt, and_left, and_right, lt-leb}
use Rattle.std.proofs.lemmas.List.{get_or-map, length-map}
use Rattle.bio_core.specs.declared.bio.Bio.{Bio}
use Rattle.merge_queue.specs.declared.limits.Limits.{Limits}
use Rattle.merge_queue.specs.declared.entries.Entry.{Entry}
use Rattle.merge_queue.specs.Groups.{Group, lba_of, dir_of, size, put, may_follow, may_join, same_dir, group_in, numbers}
use Rattle.merge_queue.specs.Index.{Queued, group_at, groups_of, IsHeld, entries_of, no_entry}
use Rattle.merge_queue.specs.Counts.{AreWithin, leaders}
use Rattle.merge_queue.proofs.Held.{at_place, held-sizes}
use Rattle.merge_queue.proofs.Joins.{between, no-join}
use Rattle.merge_queue.proofs.Moves.{put-at}

pub starts : (room : ℕ) (begins places : List ℕ) (entries : List Entry) (bios : List Bio) (next : List ℕ) (free left : ℕ) (q : Queued) → IsHeld room begins places entries bios next free left →
    record { groups = groups_of (entries_of places entries) bios next; room = room } ≡ q → (k d : ℕ) → k < length places → get_or begins k d ≡ lba_of (group_in q.groups k)
starts room begins places entries bios next free left q h v k d l =
    let es = entries_of places entries in
    let m : k < length es = (let n = length-map places (at_place entries) in omega arith) in
    ap (λ z. get_or z k d) h.begins_of
    ∙ get_or-map (λ (e : Entry). e.lba) es k no_entry d m
    ∙ (h.index.stands k no_entry m).describes.lba
    ∙ ap lba_of (sym (get_or-map (group_at bios next) es k no_entry [] m))
    ∙ ap (λ (z : Queued). lba_of (group_in z.groups k)) v

-- a new group stands at this place
pub put-place : (room : ℕ) (begins begins₁ places : List ℕ) (entries : List Entry) (bios : List Bio) (next : List ℕ) (free left at lba : ℕ) (q : Queued) (g : Group) →
    IsHeld room begins places entries bios next free left → record { groups = groups_of (entries_of places entries) bios next; room = room } ≡ q → begins₁ ≡ begins → at ≤ length begins₁ → lba ≡ lba_of g →
    ((k d : ℕ) → k < at → get_or begins₁ k d ≤ lba) → ((k d : ℕ) → at ≤ k → k < length begins₁ → lba < get_or begins₁ k d) → put g q.groups ≡ insert q.groups at g
put-place room begins begins₁ places entries bios next free left at lba q g h v e l n b a =
    let s = held-sizes room begins places entries bios next free left q h v in
    let m = ap length e in
    let x = s.groups in
    let y = s.starts in
    put-at g q.groups at (omega arith)
    (λ k i. (let c = b k 0 i in let d = ap (λ z. get_or z k 0) e in let f = starts room begins places entries bios next free left q h v k 0 (omega arith) in omega arith))
    (λ i. (let c = a at 0 (omega arith) (omega arith) in let d = ap (λ z. get_or z at 0) e in let f = starts room begins places entries bios next free left q h v at 0 (omega arith) in omega arith))

-- groups that don't lie side by side, or have more blocks than one command
no-join-wide : (lim : Limits) (gs : List Group) (i j : ℕ) → (lba_of (group_in gs i) + size (group_in gs i) ≡ lba_of (group_in gs j) → lim.max_blocks < size (group_in gs i) + size (group_in gs j)) →
    may_join lim gs i j ≡ false
no-join-wide lim gs i j h =
    ⊎_elim
    (λ (e : lba_of (group_in gs i) + size (group_in gs i) ≡ lba_of (group_in gs j)).
    (let n : nat_le (size (group_in gs i) + size (group_in gs j)) lim.max_blocks ≡ false = lt-leb (size (group_in gs i) + size (group_in gs j)) lim.max_blocks (h e) in
    and_right (not (eqb i j)) (may_follow lim (group_in gs i) (group_in gs j))
    (and_right (same_dir (dir_of (group_in gs i)) (dir_of (group_in gs j))) _
    (and_right (eqb (lba_of (group_in gs i) + size (group_in gs i)) (lba_of (group_in gs j))) _ (and_left (nat_le (size (group_in gs i) + size (group_in gs j)) lim.max_blocks) _ n)))))
    (λ (ne : lba_of (group_in gs i) + size (group_in gs i) ≡ lba_of (group_in gs j) → ⊥). no-join lim gs i j ne)
    (cases_eq (lba_of (group_in gs i) + size (group_in gs i)) (lba_of (group_in gs j)))

-- what may end where group i begins
pub before-whole : (room : ℕ) (begins begins₁ begins₂ places : List ℕ) (entries : List Entry) (bios : List Bio) (next : List ℕ) (free left : ℕ) (q : Queued) (lim : Limits) (i begin most less from to : ℕ) →
    IsHeld room begins places entries bios next free left → record { groups = groups_of (entries_of places entries) bios next; room = room } ≡ q → begins₁ ≡ begins → begins₂ ≡ begins →
    i < length places → begin ≡ get_or begins i begin → AreWithin most q.groups → less ≡ min most (lim.max_blocks - size (group_in q.groups i)) → from ≤ length begins₁ → to ≤ length begins₂ →
    ((k d : ℕ) → k < from → get_or begins₁ k d < begin - less) → ((k d : ℕ) → to ≤ k → k < length begins₂ → begin < get_or begins₂ k d) →
    (from ≤ to) × (leaders lim q.groups i ≡ filter (λ j. may_join lim q.groups j i) (numbers from (to - from))) × ((j : ℕ) → j < from → may_join lim q.groups j i ≡ false)
before-whole room begins begins₁ begins₂ places entries bios next free left q lim i begin most less from to h v e f l g w z m n b a =
    let s = held-sizes room begins places entries bios next free left q h v in
    let el = ap length e in
    let fl = ap length f in
    let sg = s.groups in
    let ss = s.starts in
    let here : begin ≡ lba_of (group_in q.groups i) = g ∙ starts room begins places entries bios next free left q h v i begin l in
    let low : (k : ℕ) → k < from → get_or begins k 0 < begin - less = (λ k x. (let c = b k 0 x in let d = ap (λ z. get_or z k 0) e in omega arith)) in
    let high : (k : ℕ) → to ≤ k → k < length places → begin < get_or begins k 0 = (λ k x y. (let c = a k 0 x (omega arith) in let d = ap (λ z. get_or z k 0) f in omega arith)) in
    let ordered : from ≤ to =
    ⊎_elim
    (λ (x : to < from). let c = low to x in let d = high to (omega arith) (omega arith) in absurd (omega arith))
    (λ (x : from ≤ to). x)
    (cases_lt to from) in
    let bound : to ≤ length q.groups = omega arith in
    let wide : (j : ℕ) → j < from → may_join lim q.groups j i ≡ false =
    (λ j x. no-join-wide lim q.groups j i
    (λ y. (let c = low j x in let d = starts room begins places entries bios next free left q h v j 0 (omega arith) in let u : size (group_in q.groups j) ≤ most = w j [] (omega arith) in omega arith))) in (
      ordered,
      between (λ j. may_join lim q.groups j i) (length q.groups) from to ordered bound wide
          (λ j x y. no-join lim q.groups j i
          (λ k. (let c = high j x (omega arith) in let d = starts room begins places entries bios next free left q h v j 0 (omega arith) in omega arith))),
      wide,
    )
