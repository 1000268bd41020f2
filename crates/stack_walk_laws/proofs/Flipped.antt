-- Ops of which some flip their blocks move as they did.
use Rattle.std.proofs.Common.{◌≡◌, ◌⊎◌, inl, inr, ℕ, zero, suc, ◌+◌, ◌<◌, ◌≤◌, Bool, true, false, eqb, if◌then◌else◌, List, [], ◌∷◌, ◌++◌, length, map, take, get_or, Option, Some, None, refl, sym, ap, subst, ◌∙◌, arith}
use Rattle.std.proofs.lemmas.Bool.{eq-eqb, eqb-true}
use Rattle.dix_adapter.specs.Passed.{Change, Flip}
use Rattle.range_gate.specs.Conflicts.{Conflict}
use Rattle.range_gate.specs.declared.footprint.Footprint.{Footprint}
use Rattle.bio_core.specs.Bios.{Block}
use Rattle.bio_core.specs.declared.request.Io.{Io}
use Rattle.block_path.specs.Acts.{Act, State}
use Rattle.block_path.specs.Blocks.{ActAnswer}
use Rattle.run_laws.specs.Passed.{Setting, steps_of, reply_of, Op, Fetch, FetchPi, Fill, Overwrite, Put, Seal, Show, Wait, Write, WritePi, footprint, Reply}
use Rattle.fault_schedule.specs.Altered.{byte_at, xored_from}
use Rattle.fault_schedule.proofs.Xored.{length-xored}
use Rattle.stack_walk_laws.specs.Finished.{AllEnded, HaveEnded, answers_of, replies_of}
use Rattle.stack_walk_laws.specs.Takes.{AllTakeAny, OpTakesAny}
use Rattle.run_laws.specs.BoundRun.{AllBound, IsBound, IsBoundRun, fates, rooms}
use Rattle.run_laws.specs.OpsApart.{IsPlaced, IsSpread, OpsConflict, is_shifted}
use Rattle.run_laws.specs.ScriptMoves.{fates_of, own_at, room_of}
use Rattle.dix_adapter.specs.declared.adapter.Adapter.{Adapter}
use Rattle.stack_walk_laws.specs.Gate.{AllPlaced, AreOver, LetsIn, MayMove, BlockSpot, number, ops_of, parts_at, place}
use Rattle.stack_walk_laws.specs.Pieces.{AllMayMove, IsNoneOf, all_cut, all_made, with_all}
use Rattle.stack_walk_laws.specs.Sending.{AllGoing, carriage_of, with_status}
use Rattle.stack_walk_laws.specs.Slots.{Status, parts_of}
use Rattle.stack_walk_laws.specs.Flips.{Flips, flip_op, no_flips, with_flips}

-- one flips where the other changes
record Flipping (op op' : Op) : Type 0 where
  dev : ℕ
  lba : ℕ
  change : Change
  mask : List ℕ
  was : op ≡ Overwrite dev lba change
  is : op' ≡ Overwrite dev lba (Flip 0 mask)

abbrev IsFlipped : Op → Op → Type 0
IsFlipped op op' = (op' ≡ op) ⊎ Flipping op op'

flipped : (o : Option (List ℕ)) (op : Op) → IsFlipped op (flip_op o op)
flipped None op = inl refl
flipped (Some mask) (Fill seg byte) = inl refl
flipped (Some mask) (Put page off bytes) = inl refl
flipped (Some mask) (Show seg) = inl refl
flipped (Some mask) (Seal n body tuples app rtag) = inl refl
flipped (Some mask) (Write v n body app) = inl refl
flipped (Some mask) (Fetch v n body) = inl refl
flipped (Some mask) (WritePi v n body tuples) = inl refl
flipped (Some mask) (FetchPi v n body tuples) = inl refl
flipped (Some mask) (Overwrite dev lba change) = inr (record { dev = dev; lba = lba; change = change; mask = mask; was = refl; is = refl })
flipped (Some mask) Wait = inl refl

-- what doesn't ask for the change is as it was
alike : {X : Type 0} (f : Op → X) → ((dev lba : ℕ) (a b : Change) → f (Overwrite dev lba a) ≡ f (Overwrite dev lba b)) → (op op' : Op) → IsFlipped op op' → f op' ≡ f op
alike f h op op' (inl e) = ap f e
alike f h op op' (inr x) = ap f x.is ∙ (h x.dev x.lba (Flip 0 x.mask) x.change ∙ sym (ap f x.was))

carries : (P : Op → Type 0) → ((dev lba : ℕ) (a b : Change) → P (Overwrite dev lba a) → P (Overwrite dev lba b)) → (op op' : Op) → IsFlipped op op' → P op → P op'
carries P h op op' (inl e) p = subst P (sym e) p
carries P h op op' (inr x) p = subst P (sym x.is) (h x.dev x.lba x.change (Flip 0 x.mask) (subst P x.was p))

pub long_flips : (flips : Flips) (i : ℕ) (ops : List Op) → length (with_flips flips i ops) ≡ length ops
long_flips flips i [] = refl
long_flips flips i (op ∷ ops) = ap suc (long_flips flips (suc i) ops)

pub no_flip : (i : ℕ) (ops : List Op) → with_flips no_flips i ops ≡ ops
no_flip i [] = refl
no_flip i (op ∷ ops) = ap (λ rest. op ∷ rest) (no_flip (suc i) ops)

pub split_flips : (flips : Flips) (i k : ℕ) (front : List Op) (op : Op) (behind : List Op) → k ≡ i + length front → with_flips flips i (front ++ (op ∷ behind)) ≡ with_flips flips i front ++ (flip_op (flips k) op ∷ with_flips flips (suc k) behind)
split_flips flips i k [] op behind e = let z : i ≡ k = omega (arith, e) in ap (λ x. flip_op (flips x) op ∷ with_flips flips (suc x) behind) z
split_flips flips i k (x ∷ front) op behind e = ap (λ rest. flip_op (flips i) x ∷ rest) (split_flips flips (suc i) k front op behind (omega (arith, e)))

pub op_flip : (flips : Flips) (i j k : ℕ) (ops : List Op) → k ≡ i + j → get_or (with_flips flips i ops) j Wait ≡ flip_op (flips k) (get_or ops j Wait)
op_flip flips i j k [] e = by (flips k) where
  by : (o : Option (List ℕ)) → Wait ≡ flip_op o Wait
  by None = refl
  by (Some mask) = refl
op_flip flips i zero k (op ∷ ops) e = let z : i ≡ k = omega (arith, e) in ap (λ x. flip_op (flips x) op) z
op_flip flips i (suc j) k (op ∷ ops) e = op_flip flips (suc i) j k ops (omega (arith, e))

-- the same for both, of any flip
pub op_alike : {X : Type 0} (f : Op → X) → ((dev lba : ℕ) (a b : Change) → f (Overwrite dev lba a) ≡ f (Overwrite dev lba b)) → (o : Option (List ℕ)) (op : Op) → f (flip_op o op) ≡ f op
op_alike f h o op = alike f h op (flip_op o op) (flipped o op)

pub rooms_flip : (m : Setting) (flips : Flips) (i : ℕ) (ops : List Op) → rooms m (with_flips flips i ops) ≡ rooms m ops
rooms_flip m flips i [] = refl
rooms_flip m flips i (op ∷ ops) =
    let a = op_alike (room_of m) (λ dev lba a b. refl) (flips i) op in
    let b = rooms_flip m flips (suc i) ops in
    ap (λ r. r + rooms m (with_flips flips (suc i) ops)) a ∙ ap (λ r. room_of m op + r) b

pub fates_flip : (flips : Flips) (i : ℕ) (ops : List Op) → fates (with_flips flips i ops) ≡ fates ops
fates_flip flips i [] = refl
fates_flip flips i (op ∷ ops) =
    let a = op_alike fates_of (λ dev lba a b. refl) (flips i) op in
    let b = fates_flip flips (suc i) ops in
    ap (λ r. r + fates (with_flips flips (suc i) ops)) a ∙ ap (λ r. fates_of op + r) b

pub placed_flip : (m : Setting) (n : ℕ) (o : Option (List ℕ)) (op : Op) → IsPlaced m n op → IsPlaced m n (flip_op o op)
placed_flip m n o op = carries (IsPlaced m n) (λ dev lba a b h. record { in_pages = h.in_pages; reads = h.reads; writes = h.writes; blocks = h.blocks }) op (flip_op o op) (flipped o op)

pub all_placed_flip : (m : Setting) (n : ℕ) (flips : Flips) (i : ℕ) (ops : List Op) → AllPlaced m n ops → AllPlaced m n (with_flips flips i ops)
all_placed_flip m n flips i [] h = tt
all_placed_flip m n flips i (op ∷ ops) h = (placed_flip m n (flips i) op h.0, all_placed_flip m n flips (suc i) ops h.1)

over_flip : (m : Setting) (i : ℕ) (status : ℕ → Status) (o : Option (List ℕ)) (op : Op) → AreOver 0 (steps_of m i op) status → AreOver 0 (steps_of m i (flip_op o op)) status
over_flip m i status o op = carries (λ x. AreOver 0 (steps_of m i x) status) (λ dev lba a b h. h) op (flip_op o op) (flipped o op)

print_flip : (shifted : Bool) (o : Option (List ℕ)) (op : Op) → footprint (flip_op o op) shifted ≡ footprint op shifted
print_flip shifted o op = op_alike (λ x. footprint x shifted) (λ dev lba a b. refl) o op

pub lets_flip : (m : Setting) (status : ℕ → ℕ → Status) (flips : Flips) (i : ℕ) (front : List Op) (j : ℕ) (o : Option (List ℕ)) (op : Op) → LetsIn m status i front j op → LetsIn m status i (with_flips flips i front) j (flip_op o op)
lets_flip m status flips i [] j o op h = tt
lets_flip m status flips i (x ∷ front) j o op h = (by h.0, lets_flip m status flips (suc i) front j o op h.1) where
  by : (AreOver 0 (steps_of m i x) (status i) ⊎ (OpsConflict m i x j op → ⊥)) → AreOver 0 (steps_of m i (flip_op (flips i) x)) (status i) ⊎ (OpsConflict m i (flip_op (flips i) x) j (flip_op o op) → ⊥)
  by (inl over) = inl (over_flip m i (status i) (flips i) x over)
  by (inr apart) = inr (λ c. apart (subst (λ (f : Footprint). Conflict f (footprint op (is_shifted m j))) (print_flip (is_shifted m i) (flips i) x)
      (subst (λ (f : Footprint). Conflict (footprint (flip_op (flips i) x) (is_shifted m i)) f) (print_flip (is_shifted m j) o op) c)))

-- a request stays as it is
spread_flip : (m : Setting) (i : ℕ) (o : Option (List ℕ)) (op : Op) → IsSpread m i op → flip_op o op ≡ op
spread_flip m i o op h = by (flipped o op) where
  by : IsFlipped op (flip_op o op) → flip_op o op ≡ op
  by (inl e) = e
  by (inr x) = absurd (subst (IsSpread m i) x.was h)

-- a block of a script, where some ops flip
abbrev pub flip_spot : Flips → BlockSpot → BlockSpot
flip_spot flips s = record { front = with_flips flips 1 s.front; op = flip_op (flips (number s)) s.op; behind = with_flips flips (suc (number s)) s.behind; before = s.before; step = s.step; after = s.after }

pub number_flip : (flips : Flips) (s : BlockSpot) → number (flip_spot flips s) ≡ number s
number_flip flips s = ap suc (long_flips flips 1 s.front)

pub ops_flip : (flips : Flips) (s : BlockSpot) → ops_of (flip_spot flips s) ≡ with_flips flips 1 (ops_of s)
ops_flip flips s = sym (split_flips flips 1 (number s) s.front s.op s.behind (let e : suc (length s.front) ≡ 1 + length s.front = omega arith in e))

pub may_flip : (m : Setting) (n : ℕ) (flips : Flips) (status : ℕ → ℕ → Status) (s : BlockSpot) → MayMove m n status s → MayMove m n status (flip_spot flips s)
may_flip m n flips status s h =
    let o = flips (number s) in
    let same = spread_flip m (number s) o s.op h.spread in
    let e = sym (number_flip flips s) in
    record {
      one = h.one;
      placed = all_placed_flip m n flips 1 s.front h.placed;
      mine = placed_flip m n o s.op h.mine;
      spread = subst (λ j. IsSpread m j (flip_op o s.op)) e (subst (IsSpread m (number s)) (sym same) h.spread);
      steps = subst (λ j. steps_of m j (flip_op o s.op) ≡ s.before ++ (s.step ∷ s.after)) e (ap (steps_of m (number s)) same ∙ h.steps);
      lets = subst (λ j. LetsIn m status 1 (with_flips flips 1 s.front) j (flip_op o s.op)) e (lets_flip m status flips 1 s.front (number s) o s.op h.lets);
    }

none_flip : (flips : Flips) (s : BlockSpot) (spots : List BlockSpot) → IsNoneOf s spots → IsNoneOf (flip_spot flips s) (map (flip_spot flips) spots)
none_flip flips s [] h = tt
none_flip flips s (t ∷ spots) h = ((λ p q. h.0 (sym (number_flip flips t) ∙ (p ∙ number_flip flips s)) q), none_flip flips s spots h.1)

pub all_may_flip : (m : Setting) (n : ℕ) (flips : Flips) (ops : List Op) (status : ℕ → ℕ → Status) (was : Status) (spots : List BlockSpot) → AllMayMove m n ops status was spots → AllMayMove m n (with_flips flips 1 ops) status was (map (flip_spot flips) spots)
all_may_flip m n flips ops status was [] h = tt
all_may_flip m n flips ops status was (s ∷ spots) h = (
  ops_flip flips s ∙ ap (with_flips flips 1) h.0,
  (
    may_flip m n flips status s h.1.0,
    (ap (λ j. status j (place s)) (number_flip flips s) ∙ h.1.1.0, (none_flip flips s spots h.1.1.1.0, all_may_flip m n flips ops status was spots h.1.1.1.1)),
  ),
)

pub with_all_flip : (flips : Flips) (next : Status) (spots : List BlockSpot) (status : ℕ → ℕ → Status) → with_all (map (flip_spot flips) spots) next status ≡ with_all spots next status
with_all_flip flips next [] status = refl
with_all_flip flips next (s ∷ spots) status =
    ap (λ j. with_all (map (flip_spot flips) spots) next (with_status j (place s) next status)) (number_flip flips s) ∙ with_all_flip flips next spots (with_status (number s) (place s) next status)

pub parts_flip : (m : Setting) (n : ℕ) (flips : Flips) (s : BlockSpot) → parts_at m n (flip_spot flips s) ≡ parts_at m n s
parts_flip m n flips s =
    ap (λ r. parts_of m (own_at (n + r) (place s)) (fates (with_flips flips 1 s.front) + place s) s.step) (rooms_flip m flips 1 s.front)
    ∙ ap (λ f. parts_of m (own_at (n + rooms m s.front) (place s)) (f + place s) s.step) (fates_flip flips 1 s.front)

pub made_flip : (m : Setting) (n : ℕ) (flips : Flips) (spots : List BlockSpot) → all_made m n (map (flip_spot flips) spots) ≡ all_made m n spots
made_flip m n flips [] = refl
made_flip m n flips (s ∷ spots) = ap (λ p. p.made ++ all_made m n (map (flip_spot flips) spots)) (parts_flip m n flips s) ∙ ap (λ (xs : List (Act ActAnswer)). (parts_at m n s).made ++ xs) (made_flip m n flips spots)

pub cut_flip : (m : Setting) (n : ℕ) (flips : Flips) (spots : List BlockSpot) → all_cut m n (map (flip_spot flips) spots) ≡ all_cut m n spots
cut_flip m n flips [] = refl
cut_flip m n flips (s ∷ spots) = ap (λ p. p.cut ++ all_cut m n (map (flip_spot flips) spots)) (parts_flip m n flips s) ∙ ap (λ (xs : List (Act ActAnswer)). (parts_at m n s).cut ++ xs) (cut_flip m n flips spots)

pub going_flip : (m : Setting) (n : ℕ) (flips : Flips) (ops : List Op) (a : Adapter) (ios : List Io) (logs : ℕ) (status : ℕ → ℕ → Status) (bs : List Block) (spots : List BlockSpot) → AllGoing m n ops a ios logs status bs spots →
    AllGoing m n (with_flips flips 1 ops) a ios logs status bs (map (flip_spot flips) spots)
going_flip m n flips ops a ios logs status [] spots h = tt
going_flip m n flips ops a ios logs status (b ∷ bs) [] h = absurd h
going_flip m n flips ops a ios logs status (b ∷ bs) (s ∷ spots) h =
    let g = h.0 in (
      record {
        script = ops_flip flips s ∙ ap (with_flips flips 1) g.script;
        number = number_flip flips s ∙ g.number;
        place = g.place;
        carriage = ap (λ r. carriage_of m (own_at (n + r) (place s)) s.step) (rooms_flip m flips 1 s.front) ∙ g.carriage;
        log = g.log;
        is_cut = g.is_cut;
        may = may_flip m n flips status s g.may;
      },
      (h.1.0, going_flip m n flips ops a ios logs status bs spots h.1.1),
    )

pub fates_take : (flips : Flips) (i p : ℕ) (ops : List Op) → fates (take p (with_flips flips i ops)) ≡ fates (take p ops)
fates_take flips i zero ops = refl
fates_take flips i (suc p) [] = refl
fates_take flips i (suc p) (op ∷ ops) =
    ap (λ r. r + fates (take p (with_flips flips (suc i) ops))) (op_alike fates_of (λ dev lba a b. refl) (flips i) op) ∙ ap (λ r. fates_of op + r) (fates_take flips (suc i) p ops)

-- an op with blocks stays as it is
pub request_flip : (o : Option (List ℕ)) (op : Op) (q : ℕ) → q < fates_of op → flip_op o op ≡ op
request_flip o op q l = by (flipped o op) where
  by : IsFlipped op (flip_op o op) → flip_op o op ≡ op
  by (inl e) = e
  by (inr x) = absurd (let z : q < 0 = subst (λ y. q < fates_of y) x.was l in omega (arith, z))

-- one more flips its block
abbrev pub flip_at : (k : ℕ) → List ℕ → Flips → Flips
flip_at k mask flips i = if eqb i k then Some mask else flips i

pub flip_here : (k : ℕ) (mask : List ℕ) (flips : Flips) → flip_at k mask flips k ≡ Some mask
flip_here k mask flips = rw (eq-eqb k k refl) refl

pub flip_there : (k : ℕ) (mask : List ℕ) (flips : Flips) (i : ℕ) → (i ≡ k → ⊥) → flip_at k mask flips i ≡ flips i
flip_there k mask flips i ne = by (eqb i k) refl where
  by : (c : Bool) → eqb i k ≡ c → (if c then Some mask else flips i) ≡ flips i
  by true q = absurd (ne (eqb-true i k q))
  by false q = refl

pub before_flip : (k : ℕ) (mask : List ℕ) (flips : Flips) (i : ℕ) (front : List Op) → i + length front ≤ k → with_flips (flip_at k mask flips) i front ≡ with_flips flips i front
before_flip k mask flips i [] l = refl
before_flip k mask flips i (op ∷ front) l =
    ap (λ o. flip_op o op ∷ with_flips (flip_at k mask flips) (suc i) front) (flip_there k mask flips i (λ e. absurd (omega (arith, l, e))))
    ∙ ap (λ rest. flip_op (flips i) op ∷ rest) (before_flip k mask flips (suc i) front (omega (arith, l)))

pub behind_flip : (k : ℕ) (mask : List ℕ) (flips : Flips) (i : ℕ) (behind : List Op) → k < i → with_flips (flip_at k mask flips) i behind ≡ with_flips flips i behind
behind_flip k mask flips i [] l = refl
behind_flip k mask flips i (op ∷ behind) l =
    ap (λ o. flip_op o op ∷ with_flips (flip_at k mask flips) (suc i) behind) (flip_there k mask flips i (λ e. absurd (omega (arith, l, e))))
    ∙ ap (λ rest. flip_op (flips i) op ∷ rest) (behind_flip k mask flips (suc i) behind (omega (arith, l)))

-- at the end

pub ended_flip : (m : Setting) (flips : Flips) (i : ℕ) (ops : List Op) (status : ℕ → ℕ → Status) → AllEnded m i ops status → AllEnded m i (with_flips flips i ops) status
ended_flip m flips i [] status h = tt
ended_flip m flips i (op ∷ ops) status h =
    (carries (λ x. HaveEnded 0 (steps_of m i x) (status i)) (λ dev lba a b k. k) op (flip_op (flips i) op) (flipped (flips i) op) h.0, ended_flip m flips (suc i) ops status h.1)

pub replies_flip : (m : Setting) (flips : Flips) (i : ℕ) (ops : List Op) (status : ℕ → ℕ → Status) → replies_of m i (with_flips flips i ops) status ≡ replies_of m i ops status
replies_flip m flips i [] status = refl
replies_flip m flips i (op ∷ ops) status =
    ap (λ (r : Reply). r ∷ replies_of m (suc i) (with_flips flips (suc i) ops) status) (op_alike (λ x. reply_of (m.fails i) x (answers_of 0 (steps_of m i x) (status i))) (λ dev lba a b. refl) (flips i) op)
    ∙ ap (λ rest. reply_of (m.fails i) op (answers_of 0 (steps_of m i op) (status i)) ∷ rest) (replies_flip m flips (suc i) ops status)

pub takes_flip : (m : Setting) (fine : ℕ → List ℕ → Bool) (flips : Flips) (i : ℕ) (ops : List Op) → AllTakeAny m fine i ops → AllTakeAny m fine i (with_flips flips i ops)
takes_flip m fine flips i [] h = tt
takes_flip m fine flips i (op ∷ ops) h = (carries (OpTakesAny m fine i) (λ dev lba a b k. k) op (flip_op (flips i) op) (flipped (flips i) op) h.0, takes_flip m fine flips (suc i) ops h.1)

-- whatever is as long as a fine block is fine in its place
abbrev pub FineByLength : (ℕ → List ℕ → Bool) → Type 0
FineByLength fine = (c : ℕ) (old new : List ℕ) → length new ≡ length old → fine c old ≡ true → fine c new ≡ true

bound_op : (m : Setting) (fine : ℕ → List ℕ → Bool) (bytes i : ℕ) (o : Option (List ℕ)) (op : Op) → FineByLength fine → IsBound m fine bytes i op → IsBound m fine bytes i (flip_op o op)
bound_op m fine bytes i o op long h = by (flipped o op) where
  by : IsFlipped op (flip_op o op) → IsBound m fine bytes i (flip_op o op)
  by (inl e) = subst (IsBound m fine bytes i) (sym e) h
  by (inr x) = subst (IsBound m fine bytes i) (sym x.is) (λ block f. long (m.site.cell x.dev x.lba) block (xored_from (byte_at 0 x.mask) 0 block) (length-xored (byte_at 0 x.mask) 0 block) f)

all_bound_flip : (m : Setting) (fine : ℕ → List ℕ → Bool) (flips : Flips) (bytes i : ℕ) (ops : List Op) → FineByLength fine → AllBound m fine bytes i ops → AllBound m fine bytes i (with_flips flips i ops)
all_bound_flip m fine flips bytes i [] long h = tt
all_bound_flip m fine flips bytes i (op ∷ ops) long h = (bound_op m fine bytes i (flips i) op long h.0, all_bound_flip m fine flips bytes (suc i) ops long h.1)

pub bound_flip : (m : Setting) (fine : ℕ → List ℕ → Bool) (flips : Flips) (n : ℕ) (ops : List Op) (opening : State) → FineByLength fine → IsBoundRun m fine n ops opening → IsBoundRun m fine n (with_flips flips 1 ops) opening
bound_flip m fine flips n ops opening long h = record {
  bound = all_bound_flip m fine flips n 1 ops long h.bound;
  room = subst (λ r. n + r ≤ length opening.bytes) (sym (rooms_flip m flips 1 ops)) h.room;
  found = subst (λ r. r ≤ length opening.fates) (sym (fates_flip flips 1 ops)) h.found;
  all_fine = h.all_fine;
}
