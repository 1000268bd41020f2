-- What may move over one device may move over another.
use Rattle.std.proofs.Common.{◌≡◌, ◌⊎◌, inl, inr, ℕ, zero, suc, ◌+◌, ◌%◌, ◌^◌, Bool, true, false, List, [], ◌∷◌, map, refl, sym, ap, subst, ◌∙◌}
use Rattle.bio_core.specs.Bios.{Block}
use Rattle.bio_core.specs.declared.request.Io.{Io}
use Rattle.page_pool.specs.Places.{total}
use Rattle.run_laws.specs.Passed.{AreVolumeBlocks, act_of, acts_of, Setting, Alters, Reads, Seals, Sets, Shows, Step, Writes, WritesPi, body_of, each_from, steps_of, tuple_of, Op, Fetch, FetchPi, Fill, Overwrite, Put, Seal, Show, Wait, Write, WritePi}
use Rattle.run_laws.specs.EarlierWrites.{HasLog}
use Rattle.run_laws.specs.BoundRun.{fates, rooms}
use Rattle.run_laws.specs.OpsApart.{HasBlocks, IsPlaced, IsSpread, OpsConflict}
use Rattle.run_laws.specs.ScriptMoves.{own_at, room_of}
use Rattle.dix_adapter.specs.declared.adapter.Adapter.{Adapter}
use Rattle.stack_walk_laws.specs.Gate.{AllPlaced, AreOver, IsAlone, LetsIn, MayMove, BlockSpot, number, parts_at, place}
use Rattle.stack_walk_laws.specs.Sending.{AllGoing, carriage_of}
use Rattle.stack_walk_laws.specs.Slots.{Status, parts_of, write_parts}
use Rattle.block_path.specs.Routes.{Device}
use Rattle.stack_walk_laws.proofs.Switching.{over}

module _ (m : Setting) (device : Device) where
  pub same_steps : (i : ℕ) (op : Op) → steps_of m i op ≡ steps_of (over m device) i op
  same_steps i (Fill seg byte) = refl
  same_steps i (Put page off values) = refl
  same_steps i (Show seg) = refl
  same_steps i (Seal n body tuples app rtag) = refl
  same_steps i (Write v n body app) = refl
  same_steps i (Fetch v n body) = refl
  same_steps i (WritePi v n body tuples) = refl
  same_steps i (FetchPi v n body tuples) = refl
  same_steps i (Overwrite dev lba change) = refl
  same_steps i Wait = refl

  same_room : (op : Op) → room_of m op ≡ room_of (over m device) op
  same_room (Fill seg byte) = refl
  same_room (Put page off values) = refl
  same_room (Show seg) = refl
  same_room (Seal n body tuples app rtag) = refl
  same_room (Write v n body app) = refl
  same_room (Fetch v n body) = refl
  same_room (WritePi v n body tuples) = refl
  same_room (FetchPi v n body tuples) = refl
  same_room (Overwrite dev lba change) = refl
  same_room Wait = refl

  pub same_rooms : (ops : List Op) → rooms m ops ≡ rooms (over m device) ops
  same_rooms [] = refl
  same_rooms (op ∷ ops) = ap (λ r. r + rooms m ops) (same_room op) ∙ ap (λ r. room_of (over m device) op + r) (same_rooms ops)

  blocks_over : (v n k : ℕ) → AreVolumeBlocks m v n k → AreVolumeBlocks (over m device) v n k
  blocks_over v n k h = record { within = h.within; bytes_are = h.bytes_are }

  has_over : (op : Op) → HasBlocks m op → HasBlocks (over m device) op
  has_over (Fill seg byte) h = tt
  has_over (Put page off values) h = tt
  has_over (Show seg) h = tt
  has_over (Seal n body tuples app rtag) h = tt
  has_over (Write v n body app) h = blocks_over v n (total body) h
  has_over (Fetch v n body) h = blocks_over v n (total body) h
  has_over (WritePi v n body tuples) h = (blocks_over v n (total body) h.0, h.1)
  has_over (FetchPi v n body tuples) h = (blocks_over v n (total body) h.0, h.1)
  has_over (Overwrite dev lba change) h = tt
  has_over Wait h = tt

  pub placed_over : (n : ℕ) (op : Op) → IsPlaced m n op → IsPlaced (over m device) n op
  placed_over n op h = record { in_pages = h.in_pages; reads = h.reads; writes = h.writes; blocks = has_over op h.blocks }

  pub all_placed_over : (n : ℕ) (ops : List Op) → AllPlaced m n ops → AllPlaced (over m device) n ops
  all_placed_over n [] h = tt
  all_placed_over n (op ∷ ops) h = (placed_over n op h.0, all_placed_over n ops h.1)

  pub spread_over : (i : ℕ) (op : Op) → IsSpread m i op → IsSpread (over m device) i op
  spread_over i (Fill seg byte) h = h
  spread_over i (Put page off values) h = h
  spread_over i (Show seg) h = h
  spread_over i (Seal n body tuples app rtag) h = h
  spread_over i (Write v n body app) h = h
  spread_over i (Fetch v n body) h = h
  spread_over i (WritePi v n body tuples) h = h
  spread_over i (FetchPi v n body tuples) h = h
  spread_over i (Overwrite dev lba change) h = h
  spread_over i Wait h = h

  pub lets_over : (status : ℕ → ℕ → Status) (i : ℕ) (ops : List Op) (j : ℕ) (op : Op) → LetsIn m status i ops j op → LetsIn (over m device) status i ops j op
  lets_over status i [] j op h = tt
  lets_over status i (x ∷ ops) j op h = (by h.0, lets_over status (suc i) ops j op h.1) where
    by : (AreOver 0 (steps_of m i x) (status i) ⊎ (OpsConflict m i x j op → ⊥)) → AreOver 0 (steps_of (over m device) i x) (status i) ⊎ (OpsConflict (over m device) i x j op → ⊥)
    by (inl o) = inl (subst (λ steps. AreOver 0 steps (status i)) (same_steps i x) o)
    by (inr apart) = inr apart

  pub may_over : (n : ℕ) (status : ℕ → ℕ → Status) (s : BlockSpot) → MayMove m n status s → MayMove (over m device) n status s
  may_over n status s h = record {
    one = h.one;
    placed = all_placed_over n s.front h.placed;
    mine = placed_over n s.op h.mine;
    spread = spread_over (number s) s.op h.spread;
    steps = sym (same_steps (number s) s.op) ∙ h.steps;
    lets = lets_over status 1 s.front (number s) s.op h.lets;
  }

  carriage_over : (own : List ℕ) (step : Step) → carriage_of m own step ≡ carriage_of (over m device) own step
  carriage_over own (Sets at values) = refl
  carriage_over own (Shows at) = refl
  carriage_over own (Seals body tuple app rtag) = refl
  carriage_over own (Writes b app body) = refl
  carriage_over own (WritesPi b frame) = refl
  carriage_over own (Reads b owner to) = refl
  carriage_over own (Alters dev lba change) = refl

  pub log_over : (logs : ℕ) (step : Step) → HasLog m logs step → HasLog (over m device) logs step
  log_over logs (Sets at values) h = tt
  log_over logs (Shows at) h = tt
  log_over logs (Seals body tuple app rtag) h = tt
  log_over logs (Writes b app body) h = h
  log_over logs (WritesPi b frame) h = h
  log_over logs (Reads b owner to) h = h
  log_over logs (Alters dev lba change) h = tt

  pub going_over : (n : ℕ) (ops : List Op) (a : Adapter) (ios : List Io) (logs : ℕ) (status : ℕ → ℕ → Status) (bs : List Block) (spots : List BlockSpot) → AllGoing m n ops a ios logs status bs spots → AllGoing (over m device) n ops a ios logs status bs spots
  going_over n ops a ios logs status [] spots h = tt
  going_over n ops a ios logs status (b ∷ bs) [] h = absurd h
  going_over n ops a ios logs status (b ∷ bs) (s ∷ spots) h =
      let g = h.0 in
      let carriage = sym (ap (λ r. carriage_of m (own_at (n + r) (place s)) s.step) (same_rooms s.front) ∙ carriage_over (own_at (n + rooms (over m device) s.front) (place s)) s.step) ∙ g.carriage in (
        record { script = g.script; number = g.number; place = g.place; carriage = carriage; log = log_over logs s.step g.log; is_cut = g.is_cut; may = may_over n status s g.may },
        (h.1.0, going_over n ops a ios logs status bs spots h.1.1),
      )

  -- a block's moves but the one that carries
  record Alike (own : List ℕ) (fate : ℕ) (step : Step) : Type 0 where
    made : (parts_of (over m device) own fate step).made ≡ (parts_of m own fate step).made
    cut : (parts_of (over m device) own fate step).cut ≡ (parts_of m own fate step).cut
    settled : (parts_of (over m device) own fate step).settled ≡ (parts_of m own fate step).settled

  parts_alike : (own : List ℕ) (fate : ℕ) (step : Step) → Alike own fate step
  parts_alike own fate (Sets at values) = record { made = refl; cut = refl; settled = refl }
  parts_alike own fate (Shows at) = record { made = refl; cut = refl; settled = refl }
  parts_alike own fate (Seals body tuple app rtag) = record { made = refl; cut = refl; settled = refl }
  parts_alike own fate (Writes b app body) = let h = by m.mode.dix in record { made = h.0; cut = h.1.0; settled = h.1.1 } where
    by : (dix : Bool) → let p = write_parts (over m device) b app body own dix in let q = write_parts m b app body own dix in (p.made ≡ q.made) × ((p.cut ≡ q.cut) × (p.settled ≡ q.settled))
    by true = (refl, (refl, refl))
    by false = (refl, (refl, refl))
  parts_alike own fate (WritesPi b frame) = record { made = refl; cut = refl; settled = refl }
  parts_alike own fate (Reads b owner to) = record { made = refl; cut = refl; settled = refl }
  parts_alike own fate (Alters dev lba change) = record { made = refl; cut = refl; settled = refl }

  pub moves_over : (n : ℕ) (s : BlockSpot) → let p = parts_at (over m device) n s in let q = parts_at m n s in (p.made ≡ q.made) × ((p.cut ≡ q.cut) × (p.settled ≡ q.settled))
  moves_over n s =
      let h = parts_alike (own_at (n + rooms m s.front) (place s)) (fates s.front + place s) s.step in
      let same = λ (r : ℕ). parts_of (over m device) (own_at (n + r) (place s)) (fates s.front + place s) s.step in
      let e = same_rooms s.front in
      (ap (λ r. (same r).made) (sym e) ∙ h.made, (ap (λ r. (same r).cut) (sym e) ∙ h.cut, ap (λ r. (same r).settled) (sym e) ∙ h.settled))

  pub acts_over : (i : ℕ) (op : Op) → IsAlone op → acts_of (over m device) i op ≡ acts_of m i op
  acts_over i (Fill seg byte) h = refl
  acts_over i (Put page off values) h = refl
  acts_over i (Show seg) h = refl
  acts_over i (Seal n body tuples app rtag) h = seals 0 n where
    seals : (k n : ℕ) → map (act_of (over m device)) (each_from k n (λ k. Seals (body_of m.size body k) (tuple_of tuples k) app ((rtag + k) % 2 ^ 32))) ≡ map (act_of m) (each_from k n (λ k. Seals (body_of m.size body k) (tuple_of tuples k) app ((rtag + k) % 2 ^ 32)))
    seals k zero = refl
    seals k (suc n) = ap (λ rest. act_of m (Seals (body_of m.size body k) (tuple_of tuples k) app ((rtag + k) % 2 ^ 32)) ∷ rest) (seals (suc k) n)
  acts_over i (Write v n body app) h = absurd h
  acts_over i (Fetch v n body) h = absurd h
  acts_over i (WritePi v n body tuples) h = absurd h
  acts_over i (FetchPi v n body tuples) h = absurd h
  acts_over i (Overwrite dev lba change) h = refl
  acts_over i Wait h = refl
