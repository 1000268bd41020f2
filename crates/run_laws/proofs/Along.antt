-- Along the steps of a run all of whose writes are stored whole at home: the same, where each accepted write counts.
use Rattle.std.proofs.Common.{◌≡◌, ◌<◌, ◌^◌, ℕ, Bool, true, false, not, ◌&&◌, ◌||◌, List, [], ◌∷◌, ◌++◌, length, get_or, Option, Some, None, refl, sym, ap, ◌∙◌}
use Rattle.std.proofs.lemmas.Bool.{and_parts, false≢true, not-true, or_left}
use Rattle.pi_tuple.specs.Finds.{is_escaped}
use Rattle.pi_tuple.specs.declared.checks.PiType.TheVariants.{One}
use Rattle.fault_schedule.specs.Altered.{keep_of}
use Rattle.fault_schedule.specs.declared.fault.Crossing.TheVariants.{TargetToMedium}
use Rattle.page_pool.specs.Cells.{gather}
use Rattle.integrity_payload.specs.declared.payload.Owner.{Owner}
use Rattle.walk_laws.specs.Passed.{State, act, fetched_cell, own_frame, own_tuple, stored_cell, way_out, DeviceInfo}
use Rattle.walk_laws.proofs.Leaves.{all_none}
use Rattle.walk_laws.proofs.TupleFrames.{Small}
use Rattle.walk_laws.specs.Detectable.{is_in_doubt, is_left_spoilt, shows_in, shows_out, step_accounts, step_shows}
use Rattle.walk_laws.specs.FirstLayer.{first_layer, has_flip, has_shift, is_all, is_at_home, is_misdirected, is_served, is_stored_whole, keeps_none, keeps_part, last_accepted, loses, tears}
use Rattle.walk_laws.specs.Past.{Brought, Event, brought_by, events_of}
use Rattle.walk_laws.specs.ScriptWalk.{act_of}
use Rattle.walk_laws.specs.Settings.{Block, Setting, route}
use Rattle.walk_laws.specs.Steps.{Alters, Reads, Seals, Sets, Shows, Step, Writes, WritesPi}
use Rattle.walk_laws.specs.UnderMap.{SuppliesNoEscape}
use Rattle.run_laws.specs.ShownRun.{AreCleanWhereRead, HasCells, LiesOn}
use Rattle.run_laws.proofs.Layers.{IsBare, checked}
use Rattle.run_laws.proofs.Counted.{EndsAs, Fits, IsPlaced, Marks as CountedMarks, Placed, begins as counted_begins, marks_after as counted_after, own_bare as counted_bare, own_brought as counted_brought, own_small as counted_small, read_as as counted_read}

-- a block that is stored whole is neither lost, nor torn, nor misdirected
pub record IsWhole (m : Setting) (b : Block) : Type 0 where
  pub kept : loses m b ≡ false
  pub untorn : tears m b ≡ false
  pub direct : is_misdirected m b ≡ false

pub whole_so : (m : Setting) (b : Block) → is_stored_whole m b ≡ true → IsWhole m b
whole_so m b h =
    let p = and_parts (is_served m b) (is_all (keep_of m.site.faults (route m b).label) && not (has_shift m b TargetToMedium)) h in
    let q = and_parts (is_all (keep_of m.site.faults (route m b).label)) (not (has_shift m b TargetToMedium)) p.1 in
    let k = all_none (keep_of m.site.faults (route m b).label) q.0 in
    record { kept = ap keeps_none k; untorn = ap keeps_part k; direct = not-true (has_shift m b TargetToMedium) q.1 }

-- so it is stored at home
pub at_home : (m : Setting) (b : Block) → IsWhole m b → is_at_home m b ≡ true
at_home m b w = λ i. not (w.kept i) && not (w.direct i)

-- and isn't in doubt
not_doubted : (m : Setting) (b : Block) → IsWhole m b → is_in_doubt m b ≡ false
not_doubted m b w = λ i. not (w.kept i) && (w.untorn i || (w.direct i && has_flip m b TargetToMedium))

-- where each fault is shown, each is accounted for
accounts_out_so : (m : Setting) (b : Block) (out left : Bool) → (is_stored_whole m b && out) ≡ true → (out && (not (is_in_doubt m b) || left)) ≡ true
accounts_out_so m b out left h =
    let p = and_parts (is_stored_whole m b) out h in
    λ i. p.1 i && (not (not_doubted m b (whole_so m b p.0) i) || left)

pub accounts : (m : Setting) (step : Step) (s : State) → step_shows m step s ≡ true → step_accounts m step s ≡ true
accounts m (Sets at values) s h = refl
accounts m (Shows at) s h = refl
accounts m (Seals body tuple app rtag) s h = refl
accounts m (Writes b app body) s h = accounts_out_so m b (shows_out m b (own_frame (route m b) app (gather 0 body s.bytes))) _ h
accounts m (WritesPi b frame) s h = accounts_out_so m b (shows_out m b (gather 0 frame s.bytes)) _ h
accounts m (Reads b owner to) s h =
    let p = and_parts (is_served m b) (shows_in m b (get_or s.blocks (fetched_cell m.site (route m b)) [])) h in
    ap (λ t. not (is_served m b) || t) p.1 ∙ or_true (not (is_served m b))
  where
    or_true : (t : Bool) → (t || true) ≡ true
    or_true true = refl
    or_true false = refl
accounts m (Alters dev lba change) s h = h

module _ (m' : Setting) (devices : List DeviceInfo) (lies : LiesOn (checked m') devices) (opening : State) (cells : HasCells (checked m') devices opening.blocks) where
  abbrev m : Setting
  m = checked m'

  abbrev n : ℕ
  n = m'.size

  abbrev all : Block → Bool
  all a = true

  abbrev pub Marks : List Event → List (List ℕ) → Type 0
  Marks past blocks = CountedMarks m' devices lies opening cells all past blocks

  pub own_small : (b : Block) (app : ℕ) (x : List ℕ) → app < 2 ^ 16 → Small (own_tuple (route m b) app x)
  own_small b app x a = counted_small m' devices lies opening cells all b app x a

  pub own_bare : (b : Block) (app : ℕ) (x : List ℕ) → length x ≡ n → app < 2 ^ 16 → is_escaped One (own_tuple (route m b) app x) ≡ false → IsBare n (own_frame (route m b) app x)
  own_bare b app x l a e = counted_bare m' devices lies opening cells all b app x l a e

  -- each such block counts
  whole_placed : (b : Block) → is_stored_whole m b ≡ true → IsPlaced m' devices lies opening cells all b
  whole_placed b h =
      let w = whole_so m b h in
      record { lands = λ q. absurd (false≢true (sym w.direct ∙ q)); counted = sym (at_home m b w) }

  pub placed : (step : Step) (s : State) → step_shows m step s ≡ true → Placed m' devices lies opening cells all step
  placed (Sets at values) s h = tt
  placed (Shows at) s h = tt
  placed (Seals body tuple app rtag) s h = tt
  placed (Writes b app body) s h = whole_placed b (and_parts (is_stored_whole m b) (shows_out m b (own_frame (route m b) app (gather 0 body s.bytes))) h).0
  placed (WritesPi b frame) s h = whole_placed b (and_parts (is_stored_whole m b) (shows_out m b (gather 0 frame s.bytes)) h).0
  placed (Reads b owner to) s h = tt
  placed (Alters dev lba change) s h = tt

  pub marks_after : (step : Step) (past : List Event) (s : State) → Fits m devices step → SuppliesNoEscape m step s → step_shows m step s ≡ true → Marks past s.blocks → Marks (events_of m step s ++ past) (act (act_of m step) s).blocks
  marks_after step past s f e d h = counted_after m' devices lies opening cells all step past s f (placed step s d) e (accounts m step s d) h

  pub read_as : (b : Block) (owner : Owner) (to : List ℕ) (past : List Event) (s : State) → Fits m devices (Reads b owner to) → step_shows m (Reads b owner to) s ≡ true → Marks past s.blocks →
      EndsAs m b owner to (first_layer m past b) (last_accepted m opening b past) s
  read_as b owner to past s f d h =
      let p = and_parts (is_served m b) (shows_in m b (get_or s.blocks (fetched_cell m.site (route m b)) [])) d in
      counted_read m' devices lies opening cells all b owner to past s f p.0 p.1 h

  pub begins : AreCleanWhereRead m devices opening.blocks → Marks [] opening.blocks
  begins clean = counted_begins m' devices lies opening cells all clean
