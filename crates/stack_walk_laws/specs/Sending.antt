use Rattle.std.specs.Prelude.{ℕ, ◌+◌, ◌≡◌, Bool, true, false, ◌&&◌, eqb, if◌then◌else◌, List, [], ◌∷◌, ◌++◌, length, get_or, Option, Some, None, Result, Ok, Err, IfOk}
use Rattle.bio_core.specs.Bios.{Block}
use Rattle.bio_core.specs.declared.fate.Fate.{Fate}
use Rattle.bio_core.specs.declared.fate.Fate.TheVariants.{Bad, Good, Untouched}
use Rattle.bio_core.specs.declared.fate.Why.{Why}
use Rattle.bio_core.specs.declared.request.Dir.{Dir}
use Rattle.bio_core.specs.declared.request.Dir.TheVariants.{Read, Write as WriteDir}
use Rattle.bio_core.specs.declared.request.Io.{Io}
use Rattle.block_path.specs.declared.route.Route.{Route}
use Rattle.block_path.specs.Acts.{Act, State, act}
use Rattle.block_path.specs.Blocks.{ActAnswer, Sent, fetched_cell}
use Rattle.block_path.specs.Moves.{carry_out}
use Rattle.block_path.specs.Serial.{plain}
use Rattle.block_path.specs.WayOut.{Refuses, Stores, goes_out}
use Rattle.run_laws.specs.Passed.{Setting, route, Alters, Reads, Seals, Sets, Shows, Step, Writes, WritesPi, Op}
use Rattle.run_laws.specs.EarlierWrites.{HasLog}
use Rattle.dix_adapter.specs.Passed.{LogEntry}
use Rattle.run_laws.specs.Records.{find, recorded}
use Rattle.run_laws.specs.ToldRun.{told}
use Rattle.run_laws.specs.BoundRun.{rooms}
use Rattle.run_laws.specs.ScriptMoves.{lands_in, own_at}
use Rattle.dix_adapter.specs.declared.adapter.Adapter.{Adapter}
use Rattle.dix_adapter.specs.Carried.{arrives, carried, land}
use Rattle.dix_adapter.specs.Groups.{frame_cells, frame_in, route_of}
use Rattle.stack_walk_laws.specs.OnRecord.{put_each}
use Rattle.stack_walk_laws.specs.Following.{Follows}
use Rattle.stack_walk_laws.specs.Gate.{MayMove, BlockSpot, number, ops_of, place}
use Rattle.stack_walk_laws.specs.Slots.{Admitted, Carried, Cut, Done, Settled, Status, Waits}

-- A group of blocks that is sent by one command.

-- something may stand on record of it
abbrev pub is_carried : Status → Bool
is_carried Waits = false
is_carried Admitted = false
is_carried Cut = false
is_carried (Carried fate) = true
is_carried (Settled why) = true
is_carried (Done shown) = true

-- Nothing stands on record of a block that was not carried.
abbrev pub NoneBefore : (ℕ → ℕ → Status) → List Sent → Type 0
NoneBefore status es = (i k : ℕ) → is_carried (status i k) ≡ false → find (record { op = i; k = k }) es ≡ None

-- a block's status, and all others as they were
abbrev pub with_status : (i k : ℕ) → Status → (ℕ → ℕ → Status) → ℕ → ℕ → Status
with_status i k next status j l = if eqb j i && eqb l k then next else status j l

-- what becomes of a block by its fate; an untouched one stays in its queue
abbrev pub with_fate : Block → Fate → (ℕ → ℕ → Status) → ℕ → ℕ → Status
with_fate b Good status = with_status b.op b.k (Carried None) status
with_fate b (Bad why) status = with_status b.op b.k (Carried (Some why)) status
with_fate b Untouched status = status

abbrev pub with_fates : List Block → List Fate → (ℕ → ℕ → Status) → ℕ → ℕ → Status
with_fates [] fates status = status
with_fates (b ∷ bs) [] status = status
with_fates (b ∷ bs) (f ∷ fs) status = with_fates bs fs (with_fate b f status)

-- a block on its way: its route, its direction, and the cells of its frame
pub record Carriage : Type 0 where
  pub route : Route
  pub dir : Dir
  pub frame : List ℕ

abbrev pub carriage_of : Setting → (own : List ℕ) → Step → Option Carriage
carriage_of m own (Sets at values) = None
carriage_of m own (Shows at) = None
carriage_of m own (Seals body tuple app rtag) = None
carriage_of m own (Writes b app body) = Some (record { route = route m b; dir = WriteDir; frame = if m.mode.dix then body ++ own else body })
carriage_of m own (WritesPi b frame) = Some (record { route = route m b; dir = WriteDir; frame = frame })
carriage_of m own (Reads b owner to) = Some (record { route = route m b; dir = Read; frame = lands_in owner m.mode.dix to own })
carriage_of m own (Alters dev lba change) = None

abbrev pub carriage_at : Setting → (n : ℕ) → BlockSpot → Option Carriage
carriage_at m n s = carriage_of m (own_at (n + rooms m s.front) (place s)) s.step

-- A block of the group is this block of the script, is carried as the adapter carries it, and was cut and not yet sent.
pub record IsGoing (m : Setting) (n : ℕ) (ops : List Op) (a : Adapter) (ios : List Io) (logs : ℕ) (status : ℕ → ℕ → Status) (b : Block) (s : BlockSpot) : Type 0 where
  pub script : ops_of s ≡ ops
  pub number : number s ≡ b.op
  pub place : place s ≡ b.k
  pub carriage : carriage_at m n s ≡ Some (record { route = route_of a ios b; dir = b.dir; frame = frame_cells ios b })
  pub log : HasLog m logs s.step
  pub is_cut : status b.op b.k ≡ Cut
  pub may : MayMove m n status s

-- it is none of these
abbrev pub IsElsewhere : Block → List Block → Type 0
IsElsewhere b [] = Unit {0}
IsElsewhere b (c ∷ cs) = (c.op ≡ b.op → c.k ≡ b.k → ⊥) × IsElsewhere b cs

-- no two blocks of a group are one
abbrev pub AllGoing : Setting → (n : ℕ) → List Op → Adapter → List Io → (logs : ℕ) → (ℕ → ℕ → Status) → List Block → List BlockSpot → Type 0
AllGoing m n ops a ios logs status [] spots = Unit {0}
AllGoing m n ops a ios logs status (b ∷ bs) [] = ⊥
AllGoing m n ops a ios logs status (b ∷ bs) (s ∷ spots) = IsGoing m n ops a ios logs status b s × (IsElsewhere b bs × AllGoing m n ops a ios logs status bs spots)

-- What came of the blocks of a group: the frames that were carried, and why the command ended, where it did; later blocks are untouched.

abbrev pub out_fates : List Block → List (Result (List ℕ) Why) → List Fate
out_fates [] cames = []
out_fates (b ∷ bs) [] = Untouched ∷ out_fates bs []
out_fates (b ∷ bs) (Ok frame ∷ cames) = Good ∷ out_fates bs cames
out_fates (b ∷ bs) (Err why ∷ cames) = Bad why ∷ out_fates bs cames

-- a frame that came passes the adapter's check, or fails
abbrev pub fate_in : Adapter → List Io → Block → Result (List ℕ) Why → Fate
fate_in a ios b (Ok frame) = carried (arrives a ios b frame)
fate_in a ios b (Err why) = Bad why

abbrev pub in_fates : Adapter → List Io → List Block → List (Result (List ℕ) Why) → List Fate
in_fates a ios [] cames = []
in_fates a ios (b ∷ bs) [] = Untouched ∷ in_fates a ios bs []
in_fates a ios (b ∷ bs) (came ∷ cames) = fate_in a ios b came ∷ in_fates a ios bs cames

-- the pages after a read's blocks landed
abbrev pub land_one : Adapter → List Io → Block → Result (List ℕ) Why → List ℕ → List ℕ
land_one a ios b (Ok frame) cells = land (frame_cells ios b) (arrives a ios b frame) cells
land_one a ios b (Err why) cells = cells

abbrev pub land_all : Adapter → List Io → List Block → List (Result (List ℕ) Why) → List ℕ → List ℕ
land_all a ios [] cames cells = cells
land_all a ios (b ∷ bs) [] cells = cells
land_all a ios (b ∷ bs) (came ∷ cames) cells = land_all a ios bs cames (land_one a ios b came cells)

-- So much came of the blocks of a write, from these pages: each frame is stored, and the last may be refused behind the adapter. And of those of a read, from these stored blocks.
abbrev pub AllGoOut : Setting → Adapter → List Io → (cells : List ℕ) → List Block → List (Result (List ℕ) Why) → Type 0
AllGoOut m a ios cells [] cames = cames ≡ []
AllGoOut m a ios cells (b ∷ bs) [] = Unit {0}
AllGoOut m a ios cells (b ∷ bs) (Ok frame ∷ cames) =
    (b.dir ≡ WriteDir) × (((stored : List ℕ) × (goes_out m.site.faults m.site.device (route_of a ios b) (frame_in ios cells b) ≡ Stores frame stored)) × AllGoOut m a ios cells bs cames)
AllGoOut m a ios cells (b ∷ bs) (Err why ∷ cames) = (b.dir ≡ WriteDir) × ((goes_out m.site.faults m.site.device (route_of a ios b) (frame_in ios cells b) ≡ Refuses why) × (cames ≡ []))

abbrev pub AllComeIn : Setting → Adapter → List Io → (blocks : List (List ℕ)) → List Block → List (Result (List ℕ) Why) → Type 0
AllComeIn m a ios blocks [] cames = cames ≡ []
AllComeIn m a ios blocks (b ∷ bs) [] = Unit {0}
AllComeIn m a ios blocks (b ∷ bs) (came ∷ cames) =
    (b.dir ≡ Read) × ((m.site.device.sends (route_of a ios b) (get_or blocks (fetched_cell m.site (route_of a ios b)) []) ≡ came) × AllComeIn m a ios blocks bs cames)

-- the moves of the blocks that were carried
abbrev pub out_acts : Setting → Adapter → List Io → List Block → List (Result (List ℕ) Why) → List (Act ActAnswer)
out_acts m a ios [] cames = []
out_acts m a ios (b ∷ bs) [] = []
out_acts m a ios (b ∷ bs) (Ok frame ∷ cames) = carry_out m.site (route_of a ios b) (frame_cells ios b) ∷ out_acts m a ios bs cames
out_acts m a ios (b ∷ bs) (Err why ∷ cames) = []

-- What a group leaves that was sent: the stack follows on, with the blocks' fates and with what came of them on record.
pub record SentOut (m : Setting) (n : ℕ) (ops : List Op) (a : Adapter) (ios : List Io) (opening now : State) (bs : List Block) (cames : List (Result (List ℕ) Why)) (status : ℕ → ℕ → Status) (es : List Sent) : Type 0 where
  pub after : State
  pub follows : Follows m n ops opening (with_fates bs (out_fates bs cames) status) after (put_each m.site bs cames es)
  pub bytes : after.bytes ≡ now.bytes
  pub blocks : after.blocks ≡ (plain act (out_acts m a ios bs cames) now).blocks

pub record SentIn (m : Setting) (n : ℕ) (ops : List Op) (a : Adapter) (ios : List Io) (opening now : State) (bs : List Block) (cames : List (Result (List ℕ) Why)) (status : ℕ → ℕ → Status) (es : List Sent) : Type 0 where
  pub after : State
  pub follows : Follows m n ops opening (with_fates bs (in_fates a ios bs cames) status) after (put_each m.site bs cames es)
  pub bytes : after.bytes ≡ land_all a ios bs cames now.bytes
  pub blocks : after.blocks ≡ now.blocks

-- After a command was sent over any rig: the stack follows on with the new log as its record, the blocks have these fates, the pages are these, and nothing stands on record of a block that wasn't carried.
pub record FollowsOn (m : Setting) (n : ℕ) (ops : List Op) (opening : State) (status : ℕ → ℕ → Status) (pages : List ℕ) (log : List LogEntry) : Type 0 where
  pub after : State
  pub follows : Follows (told m (recorded m log)) n ops opening status after (recorded m log)
  pub bytes : after.bytes ≡ pages
  pub none_before : NoneBefore status (recorded m log)

-- what is sent of the stored blocks has so many bytes
abbrev pub AllSized : Setting → Adapter → List Io → (blocks : List (List ℕ)) → (bytes : ℕ) → List Block → Type 0
AllSized m a ios blocks bytes [] = Unit {0}
AllSized m a ios blocks bytes (b ∷ bs) =
    IfOk (m.site.device.sends (route_of a ios b) (get_or blocks (fetched_cell m.site (route_of a ios b)) [])) (λ frame. length frame ≡ bytes) × AllSized m a ios blocks bytes bs

-- After a command was sent over a rig that tells its blocks: the stack follows on, and stored blocks are as told.
pub record FollowsTold (m : Setting) (n : ℕ) (ops : List Op) (opening : State) (status : ℕ → ℕ → Status) (pages : List ℕ) (blocks : List (List ℕ)) (log : List LogEntry) : Type 0 where
  pub after : State
  pub follows : Follows m n ops opening status after (recorded m log)
  pub bytes : after.bytes ≡ pages
  pub blocks_are : after.blocks ≡ blocks

-- After the adapter held a write back: the stack follows on with these fates; pages, stored blocks and record are as they were.
pub record HeldBack (m : Setting) (n : ℕ) (ops : List Op) (opening now : State) (old new : ℕ → ℕ → Status) (es : List Sent) : Type 0 where
  pub after : State
  pub follows : Follows m n ops opening new after es
  pub bytes : after.bytes ≡ now.bytes
  pub blocks : after.blocks ≡ now.blocks
  pub none_before : NoneBefore old es → NoneBefore new es
