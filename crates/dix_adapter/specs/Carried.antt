-- What a group's way through the adapter leaves.
use Rattle.std.specs.Prelude.{◌≡◌, ℕ, zero, suc, ◌+◌, ◌*◌, Bool, true, false, not, ◌&&◌, ◌||◌, if◌then◌else◌, List, [], ◌∷◌, ◌++◌, length, map, take, drop, replicate, Result, Ok, Err}
use Rattle.page_pool.specs.Cells.{flat, gather, scatter}
use Rattle.page_pool.specs.Pages.{AreWhole}
use Rattle.pi_tuple.specs.Finds.{is_zero}
use Rattle.pi_tuple.specs.declared.checks.Check.{Check}
use Rattle.cdb_codec.specs.Forms.{Fits, form}
use Rattle.cdb_codec.specs.Rule.{chosen}
use Rattle.cdb_codec.specs.declared.command.Cdb.{Cdb}
use Rattle.cdb_codec.specs.declared.choice.Dir2.{Dir2}
use Rattle.cdb_codec.specs.declared.choice.Dir2.TheVariants.{In, Out}
use Rattle.bio_core.specs.declared.bio.Bio.{Bio}
use Rattle.bio_core.specs.declared.fate.Fate.{Fate}
use Rattle.bio_core.specs.declared.fate.Fate.TheVariants.{Good, Bad, Untouched}
use Rattle.bio_core.specs.declared.fate.Why.TheVariants.{Adapter as ByAdapter}
use Rattle.bio_core.specs.declared.request.Dir.{Dir}
use Rattle.bio_core.specs.declared.request.Dir.TheVariants.{Read, Write}
use Rattle.bio_core.specs.declared.request.Io.{Io}
use Rattle.bio_core.specs.Bios.{Block}
use Rattle.rig_api.specs.Passed.{frames_of, joined}
use Rattle.rig_api.specs.declared.rig.Outcome.{Outcome}
use Rattle.rig_api.specs.State.{Exchanged, RigState}
use Rattle.block_path.specs.Routes.{wire_size}
use Rattle.block_path.specs.WayIn.{from_wire}
use Rattle.block_path.specs.WayOut.{to_wire}
use Rattle.dix_adapter.specs.declared.adapter.Adapter.{Adapter}
use Rattle.dix_adapter.specs.Groups.{blocks_in, data_cells, first_of, frame_cells, frame_in, label_of, route_by, route_of, size, tuple_cells}
use Rattle.dix_adapter.specs.Outcomes.{done_of, rest_of}

-- ---- out

-- of each block what is sent, or what the adapter found
abbrev pub sends : Adapter → List Io → (cells : List ℕ) → Block → Result (List ℕ) Check
sends a ios cells b = to_wire a.tamper (route_of a ios b) (frame_in ios cells b)

-- of block i of a bio of this request
abbrev pub sends_by : Adapter → Io → Bio → (cells : List ℕ) → ℕ → Result (List ℕ) Check
sends_by a io b cells i = to_wire a.tamper (route_by a io b i) (gather 0 (data_cells io (b.k + i) ++ tuple_cells io.pi (b.k + i)) cells)

-- of its first n blocks
abbrev pub sends_first : Adapter → Io → Bio → (cells : List ℕ) → ℕ → List (Result (List ℕ) Check)
sends_first a io b cells zero = []
sends_first a io b cells (suc n) = sends_first a io b cells n ++ (sends_by a io b cells n ∷ [])

abbrev pub is_bad : Result (List ℕ) Check → Bool
is_bad (Ok frame) = false
is_bad (Err check) = true

abbrev pub any_bad : List (Result (List ℕ) Check) → Bool
any_bad [] = false
any_bad (r ∷ rs) = is_bad r || any_bad rs

-- the adapter finds a block of a write bad
abbrev pub is_bad_write : Adapter → List Io → List Bio → (cells : List ℕ) → Bool
is_bad_write a ios req cells = any_bad (map (sends a ios cells) (blocks_in req))

-- where a block is bad, it fails and the others are untouched
abbrev pub unsent : Result (List ℕ) Check → Fate
unsent (Ok frame) = Untouched
unsent (Err check) = Bad (ByAdapter check)

abbrev pub fails : Fate → Bool
fails Good = false
fails (Bad why) = true
fails Untouched = false

abbrev pub any_fails : List Fate → Bool
any_fails [] = false
any_fails (f ∷ fs) = fails f || any_fails fs

abbrev pub frame_sent : Result (List ℕ) Check → List ℕ
frame_sent (Ok frame) = frame
frame_sent (Err check) = []

-- Their frames stand in the buffer from a place on, where all are good; what is in front of them is as it was.
pub record Gathers (a : Adapter) (io : Io) (b : Bio) (cells : List ℕ) (n from : ℕ) (old new : List ℕ) : Type 0 where
  pub front : take from new ≡ take from old
  pub frames : any_bad (sends_first a io b cells n) ≡ false → take (from + n * wire_size (route_by a io b 0)) new ≡ take from old ++ joined (map frame_sent (sends_first a io b cells n))

-- ---- in

-- what reaches the host of a frame that came, or what the adapter found
abbrev pub arrives : Adapter → List Io → Block → List ℕ → Result (List ℕ) Check
arrives a ios b frame = from_wire a.tamper (route_of a ios b) frame

-- of block i of a bio of this request
abbrev pub comes_by : Adapter → Io → Bio → List ℕ → ℕ → Result (List ℕ) Check
comes_by a io b frame i = from_wire a.tamper (route_by a io b i) frame

abbrev pub carried : Result (List ℕ) Check → Fate
carried (Ok frame) = Good
carried (Err check) = Bad (ByAdapter check)

-- the fates of the first blocks, one for each frame that came
abbrev pub fates_in : Adapter → List Io → List Block → List (List ℕ) → List Fate
fates_in a ios [] frames = []
fates_in a ios (b ∷ bs) [] = []
fates_in a ios (b ∷ bs) (f ∷ fs) = carried (arrives a ios b f) ∷ fates_in a ios bs fs

-- a good block lands in its cells, a bad one doesn't
abbrev pub land : List ℕ → Result (List ℕ) Check → List ℕ → List ℕ
land at (Ok frame) cells = scatter at frame cells
land at (Err check) cells = cells

-- of the first n blocks of a bio, whose frames of w bytes stand one after another
abbrev pub comes_first : Adapter → Io → Bio → (w : ℕ) → (frames : List ℕ) → ℕ → List (Result (List ℕ) Check)
comes_first a io b w frames zero = []
comes_first a io b w frames (suc n) = comes_first a io b w frames n ++ (comes_by a io b (take w (drop (n * w) frames)) n ∷ [])

-- the cells after they landed
abbrev pub lands_first : Adapter → Io → Bio → (w : ℕ) → (frames cells : List ℕ) → ℕ → List ℕ
lands_first a io b w frames cells zero = cells
lands_first a io b w frames cells (suc n) = land (data_cells io (b.k + n) ++ tuple_cells io.pi (b.k + n)) (comes_by a io b (take w (drop (n * w) frames)) n) (lands_first a io b w frames cells n)

abbrev pub landed : Adapter → List Io → List Block → List (List ℕ) → (cells : List ℕ) → List ℕ
landed a ios [] frames cells = cells
landed a ios (b ∷ bs) [] cells = cells
landed a ios (b ∷ bs) (f ∷ fs) cells = landed a ios bs fs (land (frame_cells ios b) (arrives a ios b f) cells)

-- ---- the exchange

abbrev pub way_of : Dir → Dir2
way_of Read = In
way_of Write = Out

abbrev pub no_block : Block
no_block = record { op = 0; k = 0; dev = 0; lba = 0; dir = Read }

-- the group's command
abbrev pub command_for : Adapter → Dir2 → (lba n : ℕ) → Cdb
command_for a dir lba n = chosen a.ty dir lba n (if a.dif && not (is_zero a.ty) then a.protect else 0) a.app a.mask

abbrev pub command_of : Adapter → List Bio → Cdb
command_of a req = command_for a (way_of (first_of req).dir) (first_of req).lba (size req)

-- what is told of a carried group

-- A write of which the adapter found a block bad: nothing is sent, and nothing changes.
pub record Unsent (a : Adapter) (ios : List Io) (req : List Bio) (pool pool' : List (List ℕ)) (fates : List Fate) : Type 0 where
  pub fates_are : fates ≡ map unsent (map (sends a ios (flat pool)) (blocks_in req))
  pub pool_is : pool' ≡ pool

-- the bytes of a frame on the wire, and all that the group sends
abbrev pub frame_len : Adapter → List Io → List Bio → ℕ
frame_len a ios req = wire_size (route_of a ios (record no_block { op = (first_of req).op }))

abbrev pub out_of : Adapter → List Io → List Bio → (pool : List (List ℕ)) → List ℕ
out_of a ios req pool = joined (map frame_sent (map (sends a ios (flat pool)) (blocks_in req)))

-- A write whose blocks are all good was sent.
pub record WasSent (a : Adapter) (ios : List Io) (req : List Bio) (pool pool' : List (List ℕ)) (fates : List Fate) (old new : RigState) : Type 0 where
  pub outcome : Outcome
  pub fits : Fits (command_of a req)
  pub exchanged : Exchanged old new (first_of req).dev (form (command_of a req)) (map label_of (blocks_in req)) (out_of a ios req pool) [] [] outcome
  pub fates_are : fates ≡ replicate (done_of (size req) outcome) Good ++ rest_of (size req) outcome
  pub pool_is : pool' ≡ pool

-- the frames that came of a group's first blocks
abbrev pub frames_came : Adapter → List Io → List Bio → Outcome → List ℕ → List (List ℕ)
frames_came a ios req o came = frames_of (frame_len a ios req) (done_of (size req) o) came

-- A read was fetched.
pub record Fetched (a : Adapter) (ios : List Io) (req : List Bio) (pool pool' : List (List ℕ)) (fates : List Fate) (old new : RigState) : Type 0 where
  pub outcome : Outcome
  pub fits : Fits (command_of a req)
  pub before : List ℕ
  pub came : List ℕ
  pub exchanged : Exchanged old new (first_of req).dev (form (command_of a req)) (map label_of (blocks_in req)) [] before came outcome
  pub room : length before ≡ size req * frame_len a ios req
  pub long : length came ≡ size req * frame_len a ios req
  pub fates_are : fates ≡ fates_in a ios (blocks_in req) (frames_came a ios req outcome came) ++ rest_of (size req) outcome
  pub pages : length pool' ≡ length pool
  pub whole : AreWhole pool'
  pub cells : flat pool' ≡ landed a ios (blocks_in req) (frames_came a ios req outcome came) (flat pool)
