-- The groups stay groups.
use Rattle.std.proofs.Common.{◌≡◌, ℕ, zero, suc, ◌+◌, ◌-◌, ◌<◌, ◌≤◌, true, false, not, ◌&&◌, eqb, List, [], ◌∷◌, ◌++◌, length, get_or, set, replicate, refl, sym, subst, ⊎_elim, arith}
use Rattle.std.specs.Prelude.{nat_lt, nat_le}
use Rattle.std.specs.List.{All}
use Rattle.std.proofs.lemmas.Bool.{cases_Bool, and_parts, not-true, ltb-true, eqb-true, eqb-false, leb-true, leb-false}
use Rattle.std.proofs.lemmas.List.Elements.{All-nil, All-cons, All-head, All-tail, All-append, All-set, All-get_or, All-push, All-map}
use Rattle.merge_queue.specs.Passed.{Bio, Dir, Read, Write, Fate}
use Rattle.merge_queue.specs.Groups.{size, Group, lba_of, dir_of, same_dir, put, put_all, without, joined, may_follow}
use Rattle.merge_queue.proofs.Moves.{size-append}
use Rattle.stack_laws.specs.Plan.{Plan, request_at}
use Rattle.stack_laws.specs.Pieces.{greatest_piece, cut_to, bio_of, fits, longest, part}
use Rattle.stack_laws.specs.Rests.{Run, front, behind, rests, untouched_runs}
use Rattle.stack_laws.specs.View.{View, no_command, start, is_admitted, op_at, queue_at, group_at, command_at}
use Rattle.stack_laws.specs.Steps.{Step, End, Complete, Admit, Cut, Join, Send, can, step}
use Rattle.stack_laws.specs.Sound.{HasBlocks, OnDevices, Sound}
use Rattle.stack_laws.specs.Formed.{Straight, Named, Chain, IsGroup, AllGroups, Formed}
use Rattle.stack_laws.proofs.Queues.{All-put, All-put_all, All-without}
use Rattle.stack_laws.proofs.Keeps.{queue-there, command-there, open-command, piece-some, cut-some, cut-within, greatest-within}
use Rattle.stack_laws.proofs.Enabled.{group-has}

-- ---- parts

part-named : (p : Plan) (d : ℕ) (b : Bio) (at n : ℕ) → Named p d b → 1 ≤ n → at + n ≤ b.count → Named p d (part p b at n)
part-named p d b at n h l m = record {
  numbered = h.numbered;
  some = l;
  within = let w = h.within in omega arith;
  on = h.on;
  way = h.way;
  dev = λ k j. (let e : b.k + at + k ≡ b.k + (at + k) = omega arith in rw e (h.dev (at + k) (omega arith)));
  lba = λ k j. (let e : b.k + at + k ≡ b.k + (at + k) = omega arith in let f : b.lba + at + k ≡ b.lba + (at + k) = omega arith in rw (e, f) (h.lba (at + k) (omega arith)));
  segs = refl;
  pi_segs = refl;
}

abbrev OneWay : Dir → List Bio → Type 0
OneWay w g = All (λ b. b.dir ≡ w) g

front-named : (p : Plan) (d n : ℕ) (bs : List Bio) → All (Named p d) bs → All (Named p d) (front p n bs)
front-named p d n [] h = h
front-named p d n (b ∷ bs) h =
    ⊎_elim
    (λ (e : nat_le b.count n ≡ true). rw e (All-cons (Named p d) b (front p (n - b.count) bs) (All-head (Named p d) b bs h) (front-named p d (n - b.count) bs (All-tail (Named p d) b bs h))))
    (λ (e : nat_le b.count n ≡ false).
    let l = leb-false b.count n e in
    ⊎_elim
    (λ (z : eqb n 0 ≡ true). rw (e, z) (All-nil (Named p d)))
    (λ (z : eqb n 0 ≡ false).
    let ne = eqb-false n 0 z in
    rw (e, z) (All-cons (Named p d) (part p b 0 n) [] (part-named p d b 0 n (All-head (Named p d) b bs h) (positive n ne) (omega arith)) (All-nil (Named p d))))
    (cases_Bool (eqb n 0)))
    (cases_Bool (nat_le b.count n))
  where
    positive : (n : ℕ) → (n ≡ 0 → ⊥) → 1 ≤ n
    positive n ne = omega arith

behind-named : (p : Plan) (d n : ℕ) (bs : List Bio) → All (Named p d) bs → All (Named p d) (behind p n bs)
behind-named p d n [] h = h
behind-named p d n (b ∷ bs) h =
    ⊎_elim
    (λ (e : nat_le b.count n ≡ true). rw e (behind-named p d (n - b.count) bs (All-tail (Named p d) b bs h)))
    (λ (e : nat_le b.count n ≡ false).
    let l = leb-false b.count n e in
    ⊎_elim
    (λ (z : eqb n 0 ≡ true). rw (e, z) h)
    (λ (z : eqb n 0 ≡ false).
    rw (e, z) (All-cons (Named p d) (part p b n (b.count - n)) bs (part-named p d b n (b.count - n) (All-head (Named p d) b bs h) (omega arith) (omega arith)) (All-tail (Named p d) b bs h)))
    (cases_Bool (eqb n 0)))
    (cases_Bool (nat_le b.count n))

front-way : (p : Plan) (w : Dir) (n : ℕ) (bs : List Bio) → OneWay w bs → OneWay w (front p n bs)
front-way p w n [] h = h
front-way p w n (b ∷ bs) h =
    ⊎_elim
    (λ (e : nat_le b.count n ≡ true). rw e (All-cons (λ b. b.dir ≡ w) b (front p (n - b.count) bs) (All-head (λ b. b.dir ≡ w) b bs h) (front-way p w (n - b.count) bs (All-tail (λ b. b.dir ≡ w) b bs h))))
    (λ (e : nat_le b.count n ≡ false).
    ⊎_elim
    (λ (z : eqb n 0 ≡ true). rw (e, z) (All-nil (λ b. b.dir ≡ w)))
    (λ (z : eqb n 0 ≡ false). rw (e, z) (All-cons (λ b. b.dir ≡ w) (part p b 0 n) [] (All-head (λ b. b.dir ≡ w) b bs h) (All-nil (λ b. b.dir ≡ w))))
    (cases_Bool (eqb n 0)))
    (cases_Bool (nat_le b.count n))

behind-way : (p : Plan) (w : Dir) (n : ℕ) (bs : List Bio) → OneWay w bs → OneWay w (behind p n bs)
behind-way p w n [] h = h
behind-way p w n (b ∷ bs) h =
    ⊎_elim
    (λ (e : nat_le b.count n ≡ true). rw e (behind-way p w (n - b.count) bs (All-tail (λ b. b.dir ≡ w) b bs h)))
    (λ (e : nat_le b.count n ≡ false).
    ⊎_elim
    (λ (z : eqb n 0 ≡ true). rw (e, z) h)
    (λ (z : eqb n 0 ≡ false). rw (e, z) (All-cons (λ b. b.dir ≡ w) (part p b n (b.count - n)) bs (All-head (λ b. b.dir ≡ w) b bs h) (All-tail (λ b. b.dir ≡ w) b bs h)))
    (cases_Bool (eqb n 0)))
    (cases_Bool (nat_le b.count n))

front-chain : (p : Plan) (at n : ℕ) (bs : List Bio) → Chain at bs → Chain at (front p n bs)
front-chain p at n [] h = h
front-chain p at n (b ∷ bs) h =
    ⊎_elim
    (λ (e : nat_le b.count n ≡ true). rw e (h.0, front-chain p (at + b.count) (n - b.count) bs h.1))
    (λ (e : nat_le b.count n ≡ false).
    ⊎_elim
    (λ (z : eqb n 0 ≡ true). rw (e, z) tt)
    (λ (z : eqb n 0 ≡ false). rw (e, z) (let f = h.0 in let g : b.lba + 0 ≡ at = omega arith in (g, tt)))
    (cases_Bool (eqb n 0)))
    (cases_Bool (nat_le b.count n))

behind-chain : (p : Plan) (at n : ℕ) (bs : List Bio) → Chain at bs → Chain (at + n) (behind p n bs)
behind-chain p at n [] h = tt
behind-chain p at n (b ∷ bs) h =
    ⊎_elim
    (λ (e : nat_le b.count n ≡ true).
    let l = leb-true b.count n e in
    let f : at + b.count + (n - b.count) ≡ at + n = omega arith in
    rw e (subst (λ (m : ℕ). Chain m (behind p (n - b.count) bs)) f (behind-chain p (at + b.count) (n - b.count) bs h.1)))
    (λ (e : nat_le b.count n ≡ false).
    let l = leb-false b.count n e in
    ⊎_elim
    (λ (z : eqb n 0 ≡ true). let f = eqb-true n 0 z in let g : at + n ≡ at = omega arith in rw (e, z, g) h)
    (λ (z : eqb n 0 ≡ false).
    let f = h.0 in
    let g : b.lba + n ≡ at + n = omega arith in
    let k : at + b.count ≡ at + n + (b.count - n) = omega arith in
    rw (e, z) (g, subst (λ (m : ℕ). Chain m bs) k h.1))
    (cases_Bool (eqb n 0)))
    (cases_Bool (nat_le b.count n))

front-size : (p : Plan) (n : ℕ) (bs : List Bio) → size (front p n bs) ≤ size bs
front-size p n [] = omega arith
front-size p n (b ∷ bs) =
    ⊎_elim
    (λ (e : nat_le b.count n ≡ true). let h = front-size p (n - b.count) bs in rw e (omega arith))
    (λ (e : nat_le b.count n ≡ false).
    let l = leb-false b.count n e in
    ⊎_elim (λ (z : eqb n 0 ≡ true). rw (e, z) (omega arith)) (λ (z : eqb n 0 ≡ false). rw (e, z) (omega arith)) (cases_Bool (eqb n 0)))
    (cases_Bool (nat_le b.count n))

behind-size : (p : Plan) (n : ℕ) (bs : List Bio) → size (behind p n bs) ≤ size bs
behind-size p n [] = omega arith
behind-size p n (b ∷ bs) =
    ⊎_elim
    (λ (e : nat_le b.count n ≡ true). let h = behind-size p (n - b.count) bs in rw e (omega arith))
    (λ (e : nat_le b.count n ≡ false).
    let l = leb-false b.count n e in
    ⊎_elim (λ (z : eqb n 0 ≡ true). rw (e, z) (omega arith)) (λ (z : eqb n 0 ≡ false). rw (e, z) (omega arith)) (cases_Bool (eqb n 0)))
    (cases_Bool (nat_le b.count n))

own-chain : (at : ℕ) (g : List Bio) → Chain at g → Chain (lba_of g) g
own-chain at [] h = tt
own-chain at (b ∷ bs) h = (refl, subst (λ (m : ℕ). Chain (m + b.count) bs) (sym h.0) h.1)

own-way : (w : Dir) (g : List Bio) → OneWay w g → OneWay (dir_of g) g
own-way w [] h = All-nil (λ b. b.dir ≡ Read)
own-way w (b ∷ bs) h = subst (λ (x : Dir). OneWay x (b ∷ bs)) (sym (All-head (λ b. b.dir ≡ w) b bs h)) h

-- a rest of a group is a group
rest-group : (p : Plan) (d n m : ℕ) (g : Group) → IsGroup p d g → IsGroup p d (front p n (behind p m g))
rest-group p d n m g h = record {
  named = front-named p d n (behind p m g) (behind-named p d m g h.named);
  chain = own-chain (lba_of g + m) (front p n (behind p m g)) (front-chain p (lba_of g + m) n (behind p m g) (behind-chain p (lba_of g) m g h.chain));
  way = own-way (dir_of g) (front p n (behind p m g)) (front-way p (dir_of g) n (behind p m g) (behind-way p (dir_of g) m g h.way));
  few = let a = front-size p n (behind p m g) in let b = behind-size p m g in let c = h.few in omega arith;
}

rests-groups : (p : Plan) (d : ℕ) (g : Group) (fs : List Fate) → IsGroup p d g → All (IsGroup p d) (rests p g fs)
rests-groups p d g fs h = All-map (IsGroup p d) (λ r. front p r.count (behind p r.at g)) (untouched_runs 0 fs) (each (untouched_runs 0 fs))
  where
    each : (rs : List Run) → All (λ (r : Run). IsGroup p d (front p r.count (behind p r.at g))) rs
    each rs k e l = rest-group p d (get_or rs k e).count (get_or rs k e).at g h

-- ---- joined groups

chain-append : (at : ℕ) (xs ys : List Bio) → Chain at xs → Chain (at + size xs) ys → Chain at (xs ++ ys)
chain-append at [] ys h k = let e : at + 0 ≡ at = omega arith in rw e at k
chain-append at (b ∷ xs) ys h k =
    let e : at + (b.count + size xs) ≡ at + b.count + size xs = omega arith in
    (h.0, chain-append (at + b.count) xs ys h.1 (rw e at k))

same-dir : (w x : Dir) → same_dir w x ≡ true → w ≡ x
same-dir Read Read h = refl
same-dir Read Write h = cc
same-dir Write Read h = cc
same-dir Write Write h = refl

joined-group : (p : Plan) (d : ℕ) (g h : Group) → HasBlocks g → IsGroup p d g → IsGroup p d h → may_follow p.limits g h ≡ true → IsGroup p d (g ++ h)
joined-group p d [] h s a b m = absurd (omega arith)
joined-group p d (x ∷ xs) h s a b m =
    let c = and_parts (same_dir (dir_of (x ∷ xs)) (dir_of h)) _ m in
    let e = and_parts (eqb (lba_of (x ∷ xs) + size (x ∷ xs)) (lba_of h)) _ c.1 in
    let f = and_parts (nat_le (size (x ∷ xs) + size h) p.limits.max_blocks) _ e.1 in
    let l = leb-true (size (x ∷ xs) + size h) p.limits.max_blocks f.0 in
    let z = size-append (x ∷ xs) h in
    let t = eqb-true (x.lba + size (x ∷ xs)) (lba_of h) e.0 in
    record {
      named = All-append (Named p d) (x ∷ xs) h a.named b.named;
      chain = chain-append x.lba (x ∷ xs) h a.chain (subst (λ (n : ℕ). Chain n h) (sym t) b.chain);
      way = All-append (λ b. b.dir ≡ x.dir) (x ∷ xs) h a.way (subst (λ (w : Dir). OneWay w h) (sym (same-dir x.dir (dir_of h) c.0)) b.way);
      few = omega arith;
    }

-- ---- a piece

pub piece-longest : (p : Plan) (i k : ℕ) → 1 ≤ longest p i k → greatest_piece p i k ≤ longest p i k
piece-longest p i k h = greatest-within (fits p i k) (longest p i k) (longest p i k) (omega arith) h

pub piece-group : (p : Plan) (i k n : ℕ) → Straight p → k < (request_at p i).count → 1 ≤ n → n ≤ longest p i k → IsGroup p ((bio_of p i k n).dev) (bio_of p i k n ∷ [])
piece-group p i k n s h l m =
    let b : n ≤ (request_at p i).count - k = omega arith in
    let r : n ≤ p.run_from ((request_at p i).first + k) = omega arith in
    record {
      named = All-cons (Named p (bio_of p i k n).dev) (bio_of p i k n) [] (record {
        numbered = omega arith;
        some = l;
        within = omega arith;
        on = refl;
        way = refl;
        dev = λ j e. s.dev i k j (omega arith) (omega arith);
        lba = λ j e. s.lba i k j (omega arith) (omega arith);
        segs = refl;
        pi_segs = refl;
      }) (All-nil (Named p (bio_of p i k n).dev));
      chain = (refl, tt);
      way = All-cons (λ b. b.dir ≡ (bio_of p i k n).dir) (bio_of p i k n) [] refl (All-nil (λ b. b.dir ≡ (bio_of p i k n).dir));
      few = omega arith;
    }

pub longest-some : (p : Plan) (i k : ℕ) → Straight p → k < (request_at p i).count → 1 ≤ longest p i k
longest-some p i k s h = let a = s.some i k h in let b = s.one in omega arith

-- ---- queues

pub groups-at : (p : Plan) (e : ℕ) (qs : List (List Group)) (d : ℕ) → d < length qs → AllGroups p e qs → All (IsGroup p (e + d)) (get_or qs d [])
groups-at p e [] d l h = absurd (omega arith)
groups-at p e (q ∷ qs) zero l h = let z : e + 0 ≡ e = omega arith in rw z h.0
groups-at p e (q ∷ qs) (suc d) l h = let z : e + suc d ≡ suc e + d = omega arith in rw z (groups-at p (suc e) qs d (omega arith) h.1)

groups-set : (p : Plan) (e : ℕ) (qs : List (List Group)) (d : ℕ) (x : List Group) → AllGroups p e qs → All (IsGroup p (e + d)) x → AllGroups p e (set qs d x)
groups-set p e [] d x h k = tt
groups-set p e (q ∷ qs) zero x h k = let z : e + 0 ≡ e = omega arith in (rw z at k, h.1)
groups-set p e (q ∷ qs) (suc d) x h k = let z : e + suc d ≡ suc e + d = omega arith in (h.0, groups-set p (suc e) qs d x h.1 (rw z at k))

pub queue-groups : (p : Plan) (v : View) (d : ℕ) → d < length v.queues → Formed p v → All (IsGroup p d) (queue_at v d)
queue-groups p v d l f = let e : 0 + d ≡ d = omega arith in rw e at (groups-at p 0 v.queues d l f.queues)

queues-set : (p : Plan) (v : View) (d : ℕ) (x : List Group) → Formed p v → All (IsGroup p d) x → AllGroups p 0 (set v.queues d x)
queues-set p v d x f h = let e : 0 + d ≡ d = omega arith in groups-set p 0 v.queues d x f.queues (rw (e) h)

pub formed-start : (p : Plan) → Formed p (start p)
formed-start p = record { queues = none 0 p.devices; commands = All-nil (λ c. IsGroup p c.dev c.bios) }
  where
    nothing : (e : ℕ) → All (IsGroup p e) []
    nothing e = All-nil (IsGroup p e)

    none : (e n : ℕ) → AllGroups p e (replicate n [])
    none e zero = tt
    none e (suc n) = (nothing e, none (suc e) n)

pub formed-keeps : (p : Plan) (v : View) (t : Step) (cut : ℕ) (fates : List Fate) → Straight p → OnDevices p → Sound p v → can p v t ≡ true → Formed p v → Formed p (step p v t cut fates)
formed-keeps p v (End a) cut fates st on s h f = record { queues = f.queues; commands = f.commands }
formed-keeps p v (Admit a) cut fates st on s h f = record { queues = f.queues; commands = f.commands }
formed-keeps p v (Complete j) cut fates st on s h f =
    let c = not-true (command_at v j).completed h in
    let o = (open-command p v j s c).device in
    let e = s.devices in
    let g = All-get_or (λ c. IsGroup p c.dev c.bios) v.commands j no_command (command-there v j c) f.commands in
    record {
      queues = queues-set p v (command_at v j).dev (put_all (rests p (command_at v j).bios (command_at v j).fates) (queue_at v (command_at v j).dev)) f
          (All-put_all (IsGroup p (command_at v j).dev) (rests p (command_at v j).bios (command_at v j).fates) (queue_at v (command_at v j).dev)
          (rests-groups p (command_at v j).dev (command_at v j).bios (command_at v j).fates g)
          (queue-groups p v (command_at v j).dev (omega arith) f));
      commands = All-set (λ c. IsGroup p c.dev c.bios) v.commands j (record (command_at v j) { completed = true }) g f.commands;
    }
formed-keeps p v (Cut a) cut fates st on s h f =
    let b = and_parts (is_admitted (op_at v a).phase) (nat_lt (op_at v a).cut (request_at p a).count) h in
    let l = ltb-true (op_at v a).cut (request_at p a).count b.1 in
    let one = piece-some p a (op_at v a).cut in
    let most = piece-longest p a (op_at v a).cut (longest-some p a (op_at v a).cut st l) in
    let small = cut-within cut (greatest_piece p a (op_at v a).cut) one in
    let some = cut-some cut (greatest_piece p a (op_at v a).cut) one in
    let n = cut_to cut (greatest_piece p a (op_at v a).cut) in
    let d = on a (op_at v a).cut l in
    let e = s.devices in
    record {
      queues = queues-set p v (bio_of p a (op_at v a).cut n).dev (put (bio_of p a (op_at v a).cut n ∷ []) (queue_at v (bio_of p a (op_at v a).cut n).dev)) f
          (All-put (IsGroup p (bio_of p a (op_at v a).cut n).dev) (bio_of p a (op_at v a).cut n ∷ []) (queue_at v (bio_of p a (op_at v a).cut n).dev)
          (piece-group p a (op_at v a).cut n st l some (omega arith))
          (queue-groups p v (bio_of p a (op_at v a).cut n).dev (omega arith) f));
      commands = f.commands;
    }
formed-keeps p v (Join d i j) cut fates st on s h f =
    let b = and_parts (nat_lt i (length (queue_at v d))) (nat_lt j (length (queue_at v d)) && (not (eqb i j) && may_follow p.limits (group_at v d i) (group_at v d j))) h in
    let c = and_parts (nat_lt j (length (queue_at v d))) (not (eqb i j) && may_follow p.limits (group_at v d i) (group_at v d j)) b.1 in
    let e = and_parts (not (eqb i j)) (may_follow p.limits (group_at v d i) (group_at v d j)) c.1 in
    let k = ltb-true i (length (queue_at v d)) b.0 in
    let l = ltb-true j (length (queue_at v d)) c.0 in
    let q = queue-groups p v d (queue-there v d i k) f in
    record {
      queues = queues-set p v d (joined (queue_at v d) i j) f
          (All-without (IsGroup p d) j (set (queue_at v d) i (group_at v d i ++ group_at v d j))
          (All-set (IsGroup p d) (queue_at v d) i (group_at v d i ++ group_at v d j)
          (joined-group p d (group_at v d i) (group_at v d j) (group-has p v d i s k) (All-get_or (IsGroup p d) (queue_at v d) i [] k q) (All-get_or (IsGroup p d) (queue_at v d) j [] l q) e.1) q));
      commands = f.commands;
    }
formed-keeps p v (Send d i) cut fates st on s h f =
    let k = ltb-true i (length (queue_at v d)) h in
    let q = queue-groups p v d (queue-there v d i k) f in
    record {
      queues = queues-set p v d (without i (queue_at v d)) f (All-without (IsGroup p d) i (queue_at v d) q);
      commands = All-push (λ c. IsGroup p c.dev c.bios) v.commands (record { dev = d; bios = group_at v d i; fates = fates; completed = false }) f.commands (All-get_or (IsGroup p d) (queue_at v d) i [] k q);
    }

-- what the adapter is given
pub sent-group : (p : Plan) (v : View) (d i : ℕ) → Sound p v → Formed p v → can p v (Send d i) ≡ true → (d < p.devices) × (HasBlocks (group_at v d i) × IsGroup p d (group_at v d i))
sent-group p v d i s f h =
    let k = ltb-true i (length (queue_at v d)) h in
    let e = s.devices in
    let l = queue-there v d i k in
    (omega arith, (group-has p v d i s k, All-get_or (IsGroup p d) (queue_at v d) i [] k (queue-groups p v d l f)))
