-- How many blocks fail at the medium though no fault line says so, as commands are carried and completed.
use Rattle.std.proofs.Common.{◌≡◌, ◌<◌, ◌≤◌, ℕ, zero, suc, ◌+◌, ◌-◌, true, false, Bool, List, [], ◌∷◌, ◌++◌, length, map, drop, get_or, set, replicate, refl, ap, ◌∙◌, ⊎_elim, arith}
use Rattle.std.specs.Prelude.{ltb, not, ◌&&◌, if◌then◌else◌, slice_get, Option, Some, None, Result, Ok, Err}
use Rattle.std.specs.List.{All}
use Rattle.std.proofs.lemmas.Bool.{cases_lt, le-ltb, lt-ltb}
use Rattle.std.proofs.lemmas.List.Elements.{All-head, All-tail}
use Rattle.pi_tuple.specs.declared.checks.PiType.{PiType}
use Rattle.pi_tuple.specs.declared.checks.Check.{Check}
use Rattle.bio_core.specs.Bios.{Block, blocks_from, blocks_of}
use Rattle.bio_core.specs.declared.bio.Bio.{Bio}
use Rattle.bio_core.specs.declared.fate.Fate.{Fate}
use Rattle.bio_core.specs.declared.fate.Fate.TheVariants.{Good, Bad, Untouched}
use Rattle.bio_core.specs.declared.request.Dir.{Dir}
use Rattle.bio_core.specs.declared.request.Dir.TheVariants.{Read, Write as WriteDir}
use Rattle.bio_core.specs.declared.request.Io.{Io}
use Rattle.integrity_payload.specs.declared.payload.Owner.{Owner}
use Rattle.integrity_payload.specs.declared.payload.Owner.TheVariants.{Block as OfBlock, App as OfApp}
use Rattle.integrity_payload.specs.declared.payload.Payload.{Payload}
use Rattle.block_path.specs.declared.mode.Mode.{Mode}
use Rattle.dix_adapter.specs.declared.adapter.Adapter.{Adapter}
use Rattle.dix_adapter.specs.Carried.{arrives, carried, fates_in, unsent}
use Rattle.dix_adapter.specs.Groups.{blocks_in, label_of}
use Rattle.dix_adapter.specs.Outcomes.{done_of, rest_of}
use Rattle.fault_schedule.specs.Altered.{fails_of}
use Rattle.fault_schedule.specs.declared.Label.{Label}
use Rattle.fault_schedule.specs.declared.fault.FaultLine.{FaultLine}
use Rattle.rig_api.specs.Log.{IsMedium}
use Rattle.rig_api.specs.Target.{fails_at, fails_under}
use Rattle.rig_api.specs.declared.rig.Outcome.{Outcome}
use Rattle.block_path.specs.Senses.{is_medium_why, why_ended}
use Rattle.stack_walk_laws.proofs.Passed.{medium_is}
use Rattle.stack_core.specs.Mediums.{held_from, kept_unscheduled, label_kept, one_unscheduled, unscheduled_of}
use Rattle.stack_walk_laws.specs.Settled.{IsSettled, Judged, KeptFates, OneSettled, Settled}
use Rattle.stack_walk_laws.specs.Settling.{IsOf, blocks_before, fate_by}
use Rattle.stack_walk_laws.specs.Sheets.{io_at}
use Rattle.stack_walk_laws.proofs.Chained.{Each}

-- ---- the label of a block that is kept

first_label : (op : ℕ) (io : Io) (ios : List Io) (x k : ℕ) → x ≡ k → k < io.count → label_kept op (io ∷ ios) x ≡ record { op = op; k = k }
first_label op io ios x k e l = rw e (ap (λ b. if b then record { op = op; k = k } else label_kept (suc op) ios (k - io.count)) (lt-ltb k io.count l))

later_label : (op : ℕ) (io : Io) (ios : List Io) (x y : ℕ) → x ≡ io.count + y → label_kept op (io ∷ ios) x ≡ label_kept (suc op) ios y
later_label op io ios x y e =
    let z : io.count + y - io.count ≡ y = omega arith in
    rw e (ap (λ b. if b then record { op = op; k = io.count + y } else label_kept (suc op) ios (io.count + y - io.count)) (le-ltb (io.count + y) io.count (omega arith)) ∙ ap (label_kept (suc op) ios) z)

pub label_there : (op : ℕ) (ios : List Io) (i k : ℕ) → i < length ios → k < (io_at ios i).count → label_kept op ios (blocks_before ios i + k) ≡ record { op = op + i; k = k }
label_there op [] i k h l = absurd (omega arith)
label_there op (io ∷ ios) zero k h l = let z : op + 0 ≡ op = omega arith in rw z (first_label op io ios (blocks_before (io ∷ ios) 0 + k) k (omega arith) l)
label_there op (io ∷ ios) (suc i) k h l =
    let z : op + suc i ≡ suc op + i = omega arith in
    rw z (later_label op io ios (blocks_before (io ∷ ios) (suc i) + k) (blocks_before ios i + k) (omega arith) ∙ label_there (suc op) ios i k (omega arith) l)

-- ---- a command is completed

set_held : (faults : List FaultLine) (label : ℕ → Label) (at : ℕ) (held : List Fate) (x : ℕ) (f : Fate) → held_from faults label at (set held x f) ≤ held_from faults label at held + one_unscheduled faults (label (at + x)) f
set_held faults label at [] x f = omega arith
set_held faults label at (h ∷ held) zero f = let z : at + 0 ≡ at = omega arith in rw z (omega arith)
set_held faults label at (h ∷ held) (suc x) f = let r = set_held faults label (suc at) held x f in let z : at + suc x ≡ suc at + x = omega arith in rw z (omega (arith, r))

module _ (faults : List FaultLine) (label : Label) where
  owner_finds : (owner : Owner) (o : Option Check) → one_unscheduled faults label (fate_by owner o) ≡ 0
  owner_finds owner None = refl
  owner_finds OfBlock (Some check) = refl
  owner_finds OfApp (Some check) = refl

  judged_mediums : (o : Option Payload) (fate : Fate) (mode : Mode) (ty : PiType) (io : Io) (k lba : ℕ) (old new : List (List ℕ)) (result : Fate) → Judged o fate mode ty io k lba old new result → one_unscheduled faults label result ≤ one_unscheduled faults label fate
  judged_mediums None fate mode ty io k lba old new result h = let e = ap (one_unscheduled faults label) h.1 in omega (arith, e)
  judged_mediums (Some pi) Good mode ty io k lba old new result h = let e = ap (one_unscheduled faults label) h.1 ∙ owner_finds pi.owner _ in omega (arith, e)
  judged_mediums (Some pi) (Bad why) mode ty io k lba old new result h = let e = ap (one_unscheduled faults label) h.1 in omega (arith, e)
  judged_mediums (Some pi) Untouched mode ty io k lba old new result h = let e = ap (one_unscheduled faults label) h.1 in omega (arith, e)

  settled_mediums : (dir : Dir) (mode : Mode) (ty : PiType) (io : Io) (k lba : ℕ) (fate : Fate) (old new : List (List ℕ)) (result : Fate) → Settled dir mode ty io k lba fate old new result → one_unscheduled faults label result ≤ one_unscheduled faults label fate
  settled_mediums Read mode ty io k lba fate old new result h = judged_mediums io.pi fate mode ty io k lba old h.between result h.judged
  settled_mediums WriteDir mode ty io k lba fate old new result h = let e = ap (one_unscheduled faults label) h.1 in omega (arith, e)

module _ (ios : List Io) (starts : List ℕ) where
  -- each of these blocks is kept at the place of its label
  abbrev pub ArePlaced : List Block → Type 0
  ArePlaced [] = Unit {0}
  ArePlaced (b ∷ bs) = (label_kept 1 ios (get_or starts (b.op - 1) 0 + b.k) ≡ label_of b) × ArePlaced bs

  join_placed : (bs cs : List Block) → ArePlaced bs → ArePlaced cs → ArePlaced (bs ++ cs)
  join_placed [] cs x y = y
  join_placed (b ∷ bs) cs x y = (x.0, join_placed bs cs x.1 y)

  from_placed : (op k dev lba : ℕ) (dir : Dir) (n : ℕ) → 1 ≤ op → op ≤ length ios → k + n ≤ (io_at ios (op - 1)).count → get_or starts (op - 1) 0 ≡ blocks_before ios (op - 1) → ArePlaced (blocks_from op k dev lba dir n)
  from_placed op k dev lba dir zero a b c e = tt
  from_placed op k dev lba dir (suc n) a b c e = (one, from_placed op (suc k) dev (suc lba) dir n a b (omega (arith, c)) e) where
    one : label_kept 1 ios (get_or starts (op - 1) 0 + k) ≡ record { op = op; k = k }
    one =
        let z : 1 + (op - 1) ≡ op = omega (arith, a) in
        ap (λ x. label_kept 1 ios (x + k)) e ∙ (label_there 1 ios (op - 1) k (omega (arith, a, b)) (omega (arith, c)) ∙ ap (λ x. record { op = x; k = k }) z)

  pub bios_placed : ((i : ℕ) → i < length ios → get_or starts i 0 ≡ blocks_before ios i) → (bios : List Bio) → All (IsOf ios) bios → ArePlaced (blocks_in bios)
  bios_placed begin [] h = tt
  bios_placed begin (b ∷ bios) h =
      let x = All-head (IsOf ios) b bios h in
      let n = x.numbered in
      let t = x.there in
      join_placed (blocks_of b) (blocks_in bios) (from_placed b.op b.k b.dev b.lba b.dir b.count n t x.within (begin (b.op - 1) (omega (arith, n, t)))) (bios_placed begin bios (All-tail (IsOf ios) b bios h))

module _ (faults : List FaultLine) (mode : Mode) (ty : PiType) (ios : List Io) (starts : List ℕ) where
  one_settled : (io : Io) (start k lba : ℕ) (label : Label) (f : Fate) (old new : KeptFates) → label_kept 1 ios (start + k) ≡ label → IsSettled mode ty io start k lba f old new →
      kept_unscheduled faults ios new.held ≤ kept_unscheduled faults ios old.held + one_unscheduled faults label f
  one_settled io start k lba label f old new e s =
      let a = ap (kept_unscheduled faults ios) s.held in
      let b = set_held faults (label_kept 1 ios) 0 old.held (start + k) s.result in
      let z : 0 + (start + k) ≡ start + k = omega arith in
      let c = settled_mediums faults label io.dir mode ty io k lba f old.pages new.pages s.result s.settled in
      let d = ap (λ x. one_unscheduled faults (label_kept 1 ios x) s.result) z ∙ ap (λ x. one_unscheduled faults x s.result) e in
      omega (arith, a, b, c, d)

  pub each_mediums : (bs : List Block) (fs : List Fate) (old new : KeptFates) → ArePlaced ios starts bs → Each mode ty ios starts bs fs old new → kept_unscheduled faults ios new.held ≤ kept_unscheduled faults ios old.held + unscheduled_of faults (map label_of bs) fs
  each_mediums [] fs old new p h = let e = ap (λ (k : KeptFates). kept_unscheduled faults ios k.held) h in omega (arith, e)
  each_mediums (b ∷ bs) [] old new p h = absurd h
  each_mediums (b ∷ bs) (f ∷ fs) old new p h = let r = each_mediums bs fs h.0 new p.1 h.1.1 in let x = by f h.1.0 in omega (arith, r, x)
    where
      by : (f : Fate) → OneSettled mode ty (io_at ios (b.op - 1)) (get_or starts (b.op - 1) 0) b.k b.lba f old h.0 → kept_unscheduled faults ios (h.0).held ≤ kept_unscheduled faults ios old.held + one_unscheduled faults (label_of b) f
      by Good s = one_settled (io_at ios (b.op - 1)) _ b.k b.lba (label_of b) Good old h.0 p.0 s
      by (Bad why) s = one_settled (io_at ios (b.op - 1)) _ b.k b.lba (label_of b) (Bad why) old h.0 p.0 s
      by Untouched s = let e = ap (λ (k : KeptFates). kept_unscheduled faults ios k.held) s in omega (arith, e)

-- ---- a group is carried

module _ (faults : List FaultLine) where
  pub untouched_held : (label : ℕ → Label) (at n : ℕ) → held_from faults label at (replicate n Untouched) ≡ 0
  untouched_held label at zero = refl
  untouched_held label at (suc n) = let r = untouched_held label (suc at) n in omega (arith, r)

  untouched_mediums : (labels : List Label) (n : ℕ) → unscheduled_of faults labels (replicate n Untouched) ≡ 0
  untouched_mediums [] n = refl
  untouched_mediums (l ∷ labels) zero = refl
  untouched_mediums (l ∷ labels) (suc n) = let r = untouched_mediums labels n in omega (arith, r)

  pub unsent_mediums : (labels : List Label) (rs : List (Result (List ℕ) Check)) → unscheduled_of faults labels (map unsent rs) ≡ 0
  unsent_mediums [] rs = refl
  unsent_mediums (l ∷ labels) [] = refl
  unsent_mediums (l ∷ labels) (Ok frame ∷ rs) = let r = unsent_mediums labels rs in omega (arith, r)
  unsent_mediums (l ∷ labels) (Err check ∷ rs) = let r = unsent_mediums labels rs in omega (arith, r)

  carried_none : (label : Label) (r : Result (List ℕ) Check) → one_unscheduled faults label (carried r) ≡ 0
  carried_none label (Ok frame) = refl
  carried_none label (Err check) = refl

  -- none of those that were done
  pub good_behind : (labels : List Label) (n : ℕ) (rest : List Fate) → unscheduled_of faults labels (replicate n Good ++ rest) ≡ unscheduled_of faults (drop n labels) rest
  good_behind labels zero rest = refl
  good_behind [] (suc n) rest = refl
  good_behind (l ∷ labels) (suc n) rest = let r = good_behind labels n rest in omega (arith, r)

  pub came_behind : (a : Adapter) (ios : List Io) (labels : List Label) (bs : List Block) (fs : List (List ℕ)) (rest : List Fate) → length fs ≤ length bs → unscheduled_of faults labels (fates_in a ios bs fs ++ rest) ≡ unscheduled_of faults (drop (length fs) labels) rest
  came_behind a ios labels [] [] rest h = refl
  came_behind a ios labels [] (f ∷ fs) rest h = absurd (omega arith)
  came_behind a ios labels (b ∷ bs) [] rest h = refl
  came_behind a ios [] (b ∷ bs) (f ∷ fs) rest h = refl
  came_behind a ios (l ∷ labels) (b ∷ bs) (f ∷ fs) rest h = let x = carried_none l (arrives a ios b f) in let r = came_behind a ios labels bs fs rest (omega arith) in omega (arith, x, r)

  -- at most the one at which the command ended
  ended_one : (labels : List Label) (f : Fate) (n : ℕ) → unscheduled_of faults labels (f ∷ replicate n Untouched) ≤ 1
  ended_one [] f n = omega arith
  ended_one (l ∷ labels) f n = let r = untouched_mediums labels n in let x = one f in omega (arith, r, x) where
    mark : (b : Bool) → (if b then 1 else 0) ≤ 1
    mark true = omega arith
    mark false = omega arith

    one : (f : Fate) → one_unscheduled faults l f ≤ 1
    one Good = omega arith
    one (Bad why) = mark (is_medium_why why && not (fails_of faults l))
    one Untouched = omega arith

  pub rest_few : (labels : List Label) (n : ℕ) (o : Outcome) → unscheduled_of faults labels (rest_of n o) ≤ 1
  rest_few labels n o = by (ltb o.done n) where
    none : (labels : List Label) → unscheduled_of faults labels [] ≡ 0
    none [] = refl
    none (l ∷ labels) = refl

    by : (b : Bool) → unscheduled_of faults labels (if b then Bad (why_ended o.sense) ∷ replicate (n - suc o.done) Untouched else []) ≤ 1
    by true = ended_one labels (Bad (why_ended o.sense)) (n - suc o.done)
    by false = let z = none labels in omega (arith, z)

  -- and then its sense says so, and no fault line does
  ended_why : (labels : List Label) (k : ℕ) (o : Outcome) (n : ℕ) → 1 ≤ unscheduled_of faults (drop k labels) (Bad (why_ended o.sense) ∷ replicate n Untouched) → IsMedium o × (fails_under faults (slice_get labels k) ≡ false)
  ended_why [] zero o n h = absurd (omega (arith, h))
  ended_why [] (suc k) o n h = absurd (omega (arith, h))
  ended_why (l ∷ labels) (suc k) o n h = ended_why labels k o n h
  ended_why (l ∷ labels) zero o n h = let z = untouched_mediums labels n in by (is_medium_why (why_ended o.sense)) (fails_of faults l) refl refl (omega (arith, h, z)) where
    by : (b c : Bool) → is_medium_why (why_ended o.sense) ≡ b → fails_of faults l ≡ c → 1 ≤ (if is_medium_why (why_ended o.sense) && not (fails_of faults l) then 1 else 0) → IsMedium o × (fails_of faults l ≡ false)
    by true false e f x = (medium_is o.sense e, f)
    by true true e f x = let y : 1 ≤ 0 = rw (e, f) at x in absurd (omega (arith, y))
    by false c e f x = let y : 1 ≤ 0 = rw e at x in absurd (omega (arith, y))

  pub rest_why : (labels : List Label) (n : ℕ) (o : Outcome) → 1 ≤ unscheduled_of faults (drop (done_of n o) labels) (rest_of n o) → IsMedium o × (fails_at faults labels o.done ≡ false)
  rest_why labels n o h = ⊎_elim
      (λ (l : o.done < n). (let e : done_of n o ≡ o.done = omega arith in
      let f : rest_of n o ≡ Bad (why_ended o.sense) ∷ replicate (n - suc o.done) Untouched = ap (λ b. if b then Bad (why_ended o.sense) ∷ replicate (n - suc o.done) Untouched else []) (lt-ltb o.done n l) in
      ended_why labels o.done o (n - suc o.done) (rw (e, f) at h)))
      (λ (l : n ≤ o.done). (let f : rest_of n o ≡ [] = ap (λ b. if b then Bad (why_ended o.sense) ∷ replicate (n - suc o.done) Untouched else []) (le-ltb o.done n l) in
      let z = none (drop (done_of n o) labels) in let y = ap (unscheduled_of faults (drop (done_of n o) labels)) f in absurd (omega (arith, h, z, y))))
      (cases_lt o.done n)
    where
      none : (labels : List Label) → unscheduled_of faults labels [] ≡ 0
      none [] = refl
      none (l ∷ labels) = refl
