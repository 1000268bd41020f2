-- What becomes of a group before a unit that is told: each block goes its way, up to the one at which the command ends.
use Rattle.std.specs.Prelude.{◌≡◌, ℕ, zero, suc, ◌+◌, ◌*◌, ◌-◌, min, ltb, Bool, true, false, ◌||◌, if◌then◌else◌, List, [], ◌∷◌, ◌++◌, get_or, length, map, replicate, set, take, pos, ◌+ℤ◌, Option, Some, None}
use Rattle.std.specs.List.{All}
use Rattle.dix_base.specs.Told.{Calm}
use Rattle.page_pool.specs.Cells.{flat}
use Rattle.fault_schedule.specs.Altered.{shift_of}
use Rattle.fault_schedule.specs.declared.fault.Crossing.TheVariants.{AdapterToTarget, MediumToTarget, TargetToMedium}
use Rattle.fault_schedule.specs.declared.fault.FaultLine.{FaultLine}
use Rattle.bio_core.specs.declared.bio.Bio.{Bio}
use Rattle.bio_core.specs.declared.fate.Fate.{Fate}
use Rattle.bio_core.specs.declared.fate.Fate.TheVariants.{Good, Bad, Untouched}
use Rattle.bio_core.specs.declared.fate.Why.TheVariants.{Medium}
use Rattle.bio_core.specs.declared.request.Dir.TheVariants.{Read, Write}
use Rattle.bio_core.specs.declared.request.Io.{Io}
use Rattle.bio_core.specs.Bios.{Block, block_size}
use Rattle.cdb_codec.specs.Forms.{Fits, form}
use Rattle.rig_api.specs.Passed.{frames_of, joined, Stop, Stored, has_blocks, shape_of}
use Rattle.rig_api.specs.declared.units.UnitSpec.{UnitSpec}
use Rattle.rig_api.specs.Log.{LogEntry, HasRoom, Room}
use Rattle.rig_api.specs.Telling.{HasCause, unit_at}
use Rattle.rig_api.specs.State.{RigState}
use Rattle.block_path.specs.Acts.{Act, State, act}
use Rattle.block_path.specs.Blocks.{ActAnswer, Site, fetched_cell, stored_cell}
use Rattle.block_path.specs.Moves.{carry_in, carry_out}
use Rattle.block_path.specs.Routes.{target}
use Rattle.block_path.specs.Serial.{plain}
use Rattle.block_path.specs.WayIn.{Delivers, Spoils, Stops, WayIn, comes_in}
use Rattle.block_path.specs.WayOut.{Fails, Refuses, Stores, WayOut, goes_out}
use Rattle.dix_adapter.specs.declared.adapter.Adapter.{Adapter}
use Rattle.dix_adapter.specs.Carried.{command_of, fates_in, frame_len, frame_sent, landed, sends}
use Rattle.dix_adapter.specs.Groups.{blocks_in, first_of, frame_cells, frame_in, label_of, request_of, route_of, size}
use Rattle.dix_adapter.specs.Outcomes.{done_of, rest_of}

-- ---- over any rig, by what stands on record

-- some block of a command is done, or ended it
abbrev pub is_settled : Fate → Bool
is_settled Good = true
is_settled (Bad why) = true
is_settled Untouched = false

abbrev pub any_settled : List Fate → Bool
any_settled [] = false
any_settled (f ∷ fs) = is_settled f || any_settled fs

abbrev pub settled_count : List Fate → ℕ
settled_count [] = 0
settled_count (f ∷ fs) = (if is_settled f then 1 else 0) + settled_count fs

-- A command took one record, and at most a frame and a label for each block that is settled.
abbrev pub Spends : (size : ℕ) → List Fate → (old new : Room) → Type 0
Spends size fates old new = (exchanges blocks : ℕ) → HasRoom size (exchanges + 1) (blocks + settled_count fates) old → HasRoom size exchanges blocks new

-- One record was appended: of the group's command to its device, with the labels of its blocks in their order.
pub record IsRecord (a : Adapter) (req : List Bio) (old new : RigState) (e : LogEntry) : Type 0 where
  pub recorded : new.log ≡ old.log ++ (e ∷ [])
  pub dev : e.what.dev ≡ (first_of req).dev
  pub cdb : e.what.cdb ≡ form (command_of a req)
  pub fits : Fits (command_of a req)
  pub labels : e.labels ≡ take (min (e.what.outcome.done + 1) (size req)) (map label_of (blocks_in req))

-- The record of a write has the frames that were sent of the blocks that are done.
pub record RecordedOut (a : Adapter) (ios : List Io) (req : List Bio) (cells : List ℕ) (fates : List Fate) (old new : RigState) : Type 0 where
  pub entry : LogEntry
  pub what : IsRecord a req old new entry
  pub moved : entry.moved ≡ joined (take (done_of (size req) entry.what.outcome) (map frame_sent (map (sends a ios cells) (blocks_in req))))
  pub fates_are : fates ≡ replicate (done_of (size req) entry.what.outcome) Good ++ rest_of (size req) entry.what.outcome

-- The record of a read has a whole frame of each block that is done. What becomes of the blocks, and of the cells, is what these frames come to.
pub record RecordedIn (a : Adapter) (ios : List Io) (req : List Bio) (pool pool' : List (List ℕ)) (fates : List Fate) (old new : RigState) : Type 0 where
  pub entry : LogEntry
  pub what : IsRecord a req old new entry
  pub long : length entry.moved ≡ done_of (size req) entry.what.outcome * frame_len a ios req
  pub fates_are : fates ≡ fates_in a ios (blocks_in req) (frames_of (frame_len a ios req) (done_of (size req) entry.what.outcome) entry.moved) ++ rest_of (size req) entry.what.outcome
  pub cells : flat pool' ≡ landed a ios (blocks_in req) (frames_of (frame_len a ios req) (done_of (size req) entry.what.outcome) entry.moved) (flat pool)

-- ---- stored blocks as cells

-- Stored blocks have cells in turn, those of unit 0 first: the cell of an address of a device.
abbrev pub cell_in : List UnitSpec → (dev lba : ℕ) → ℕ
cell_in [] dev lba = 0
cell_in (u ∷ us) zero lba = lba - u.first
cell_in (u ∷ us) (suc dev) lba = u.blocks + cell_in us dev lba

-- what the cells hold
abbrev pub blocks_told : List Stored → List (List ℕ)
blocks_told [] = []
blocks_told (u ∷ us) = u.blocks ++ blocks_told us

abbrev pub shapes_of : List Stored → List UnitSpec
shapes_of us = map shape_of us

-- where the adapter's blocks go: to units of these shapes, with the adapter's faults armed
abbrev pub site_of : Adapter → List UnitSpec → Site
site_of a units = record { faults = a.tamper; device = target a.tamper; cell = cell_in units }

-- The unit behind a group is the adapter's: it has the adapter's type, blocks of the group's size, and the same faults armed. The ops of the group are shifted alike, and the unit has the group's addresses where the shifts move them.
pub record IsBehind (a : Adapter) (ios : List Io) (req : List Bio) (us : List Stored) (lines : List FaultLine) : Type 0 where
  pub ty : (unit_at us (first_of req).dev).ty ≡ a.ty
  pub bytes : (unit_at us (first_of req).dev).size ≡ block_size (request_of ios (first_of req).op)
  pub armed : lines ≡ a.tamper
  pub alike : All (λ b. (shift_of a.tamper AdapterToTarget b.op ≡ shift_of a.tamper AdapterToTarget (first_of req).op)
      × (shift_of a.tamper MediumToTarget b.op ≡ shift_of a.tamper MediumToTarget (first_of req).op)
      × (shift_of a.tamper TargetToMedium b.op ≡ shift_of a.tamper TargetToMedium (first_of req).op)) req
  pub sent : has_blocks (shape_of (unit_at us (first_of req).dev)) (pos (first_of req).lba +ℤ shift_of a.tamper AdapterToTarget (first_of req).op) (size req) ≡ true
  pub stored : (first_of req).dir ≡ Write
      → has_blocks (shape_of (unit_at us (first_of req).dev))
      ((pos (first_of req).lba +ℤ shift_of a.tamper AdapterToTarget (first_of req).op) +ℤ shift_of a.tamper TargetToMedium (first_of req).op) (size req) ≡ true
  pub fetched : (first_of req).dir ≡ Read
      → has_blocks (shape_of (unit_at us (first_of req).dev))
      ((pos (first_of req).lba +ℤ shift_of a.tamper AdapterToTarget (first_of req).op) +ℤ shift_of a.tamper MediumToTarget (first_of req).op) (size req) ≡ true

-- No store call failed where the count of faults stayed; where it rose one may have failed, at some block.
abbrev pub UpTo : (Option Stop → Type 0) → (frame : ℕ) → (faults faults' : ℕ) → Type 0
UpTo P frame faults faults' = (Calm faults faults' → P None) × ((stop : Option Stop) × HasCause stop frame faults faults' × P stop)

-- ---- out

-- the way of each block, as it stands in the pages
abbrev pub ways_out : Adapter → List Io → (cells : List ℕ) → List Block → List WayOut
ways_out a ios cells [] = []
ways_out a ios cells (b ∷ bs) = goes_out a.tamper (target a.tamper) (route_of a ios b) (frame_in ios cells b) ∷ ways_out a ios cells bs

-- and the move by which it is carried
abbrev pub acts_out : Adapter → List Io → List UnitSpec → List Block → List (Act ActAnswer)
acts_out a ios units [] = []
acts_out a ios units (b ∷ bs) = carry_out (site_of a units) (route_of a ios b) (frame_cells ios b) ∷ acts_out a ios units bs

-- the frames that are carried, up to the block at which the command ends
abbrev pub frames_out : List WayOut → List (List ℕ)
frames_out [] = []
frames_out (Fails why ∷ ws) = []
frames_out (Refuses why ∷ ws) = []
frames_out (Stores carried stored ∷ ws) = carried ∷ frames_out ws

abbrev pub fates_out : List WayOut → List Fate
fates_out [] = []
fates_out (Fails why ∷ ws) = Bad why ∷ replicate (length ws) Untouched
fates_out (Refuses why ∷ ws) = Bad why ∷ replicate (length ws) Untouched
fates_out (Stores carried stored ∷ ws) = Good ∷ fates_out ws

-- A store call that fails, fails at a block that was accepted: the command ends there.
abbrev pub stopped_out : Option Stop → List WayOut → List WayOut
stopped_out None ws = ws
stopped_out (Some s) ws = if ltb s.at (length (frames_out ws)) then set ws s.at (Refuses Medium) else ws

-- where the blocks are stored
abbrev pub cells_out : Adapter → List Io → List UnitSpec → List Block → List ℕ
cells_out a ios units [] = []
cells_out a ios units (b ∷ bs) = stored_cell (site_of a units) (route_of a ios b) ∷ cells_out a ios units bs

-- In the cell of that block anything may stand that the store left there; so many blocks were accepted.
abbrev pub left_at : Option Stop → (accepted : ℕ) → (at : List ℕ) → List (List ℕ) → List (List ℕ)
left_at None accepted at blocks = blocks
left_at (Some s) accepted at blocks = if ltb s.at accepted then set blocks (get_or at s.at 0) s.left else blocks

-- The blocks of a write went their ways; a store call failed, or none.
pub record WentOut (a : Adapter) (ios : List Io) (req : List Bio) (cells : List ℕ) (us : List Stored) (stop : Option Stop) (fates : List Fate) (old new : RigState) : Type 0 where
  pub fates_are : fates ≡ fates_out (stopped_out stop (ways_out a ios cells (blocks_in req)))
  pub units : List Stored
  pub told : new.units ≡ Some units
  pub shapes : shapes_of units ≡ shapes_of us
  pub blocks : (now : State) → now.bytes ≡ cells → now.blocks ≡ blocks_told us →
      blocks_told units ≡ left_at stop (length (frames_out (ways_out a ios cells (blocks_in req)))) (cells_out a ios (shapes_of us) (blocks_in req))
      (plain act (take (length (frames_out (stopped_out stop (ways_out a ios cells (blocks_in req))))) (acts_out a ios (shapes_of us) (blocks_in req))) now).blocks
  pub entry : LogEntry
  pub recorded : new.log ≡ old.log ++ (entry ∷ [])
  pub done : entry.what.outcome.done ≡ length (frames_out (stopped_out stop (ways_out a ios cells (blocks_in req))))
  pub moved : entry.moved ≡ joined (frames_out (stopped_out stop (ways_out a ios cells (blocks_in req))))
  pub labels : entry.labels ≡ take (min (entry.what.outcome.done + 1) (size req)) (map label_of (blocks_in req))

-- ---- in

-- the way of each block, as it is stored
abbrev pub ways_in : Adapter → List Io → List UnitSpec → (blocks : List (List ℕ)) → List Block → List WayIn
ways_in a ios units blocks [] = []
ways_in a ios units blocks (b ∷ bs) = comes_in a.tamper (target a.tamper) (route_of a ios b) (get_or blocks (fetched_cell (site_of a units) (route_of a ios b)) []) ∷ ways_in a ios units blocks bs

-- and the move by which it is carried; what is found of a block is kept in a cell of its own
abbrev pub acts_in : Adapter → List Io → List UnitSpec → (kept : Block → ℕ) → List Block → List (Act ActAnswer)
acts_in a ios units kept [] = []
acts_in a ios units kept (b ∷ bs) = carry_in (site_of a units) (route_of a ios b) (frame_cells ios b) (kept b) ∷ acts_in a ios units kept bs

abbrev pub frames_in : List WayIn → List (List ℕ)
frames_in [] = []
frames_in (Stops why ∷ ws) = []
frames_in (Spoils why carried ∷ ws) = carried ∷ frames_in ws
frames_in (Delivers carried frame ∷ ws) = carried ∷ frames_in ws

abbrev pub fates_of_in : List WayIn → List Fate
fates_of_in [] = []
fates_of_in (Stops why ∷ ws) = Bad why ∷ replicate (length ws) Untouched
fates_of_in (Spoils why carried ∷ ws) = Bad why ∷ fates_of_in ws
fates_of_in (Delivers carried frame ∷ ws) = Good ∷ fates_of_in ws

-- A store call that fails comes before the check of its block, so it may be that of the block at which the command would have ended.
abbrev pub stopped_in : Option Stop → List WayIn → List WayIn
stopped_in None ws = ws
stopped_in (Some s) ws = if ltb s.at (length (frames_in ws) + 1) then set ws s.at (Stops Medium) else ws

-- The blocks of a read came their ways; a store call failed, or none.
pub record CameIn (a : Adapter) (ios : List Io) (req : List Bio) (pool pool' : List (List ℕ)) (us : List Stored) (stop : Option Stop) (fates : List Fate) (old new : RigState) : Type 0 where
  pub fates_are : fates ≡ fates_of_in (stopped_in stop (ways_in a ios (shapes_of us) (blocks_told us) (blocks_in req)))
  pub told : new.units ≡ Some us
  pub cells : (kept : Block → ℕ) (now : State) → now.bytes ≡ flat pool → now.blocks ≡ blocks_told us →
      flat pool' ≡ (plain act (take (length (frames_in (stopped_in stop (ways_in a ios (shapes_of us) (blocks_told us) (blocks_in req)))))
      (acts_in a ios (shapes_of us) kept (blocks_in req))) now).bytes
  pub entry : LogEntry
  pub recorded : new.log ≡ old.log ++ (entry ∷ [])
  pub done : entry.what.outcome.done ≡ length (frames_in (stopped_in stop (ways_in a ios (shapes_of us) (blocks_told us) (blocks_in req))))
  pub moved : entry.moved ≡ joined (frames_in (stopped_in stop (ways_in a ios (shapes_of us) (blocks_told us) (blocks_in req))))
  pub labels : entry.labels ≡ take (min (entry.what.outcome.done + 1) (size req)) (map label_of (blocks_in req))
