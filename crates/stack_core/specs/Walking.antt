-- That a stack between two steps follows the walk of its script.
use Rattle.std.specs.Prelude.{◌≡◌, ◌⊎◌, ℕ, zero, suc, ◌+◌, ◌*◌, ◌<◌, ◌≤◌, Bool, false, true, List, [], length, drop, get_or, is_some, set, take, Option, Some}
use Rattle.dix_base.specs.Told.{Calm}
use Rattle.page_pool.specs.Cells.{flat}
use Rattle.page_pool.specs.Pages.{AreWhole}
use Rattle.bio_core.specs.declared.fate.Fate.{Fate}
use Rattle.bio_core.specs.declared.fate.Fate.TheVariants.{Untouched}
use Rattle.bio_core.specs.declared.fate.Why.{Why}
use Rattle.bio_core.specs.Bios.{block_size}
use Rattle.fault_schedule.specs.declared.fault.FaultLine.{FaultLine}
use Rattle.rig_api.specs.Target.{Stored}
use Rattle.range_gate.specs.Gates.{has_ended}
use Rattle.rig_api.specs.Log.{LogEntry}
use Rattle.rig_api.specs.State.{RigState}
use Rattle.rig_api.specs.Telling.{Standing, block_at, changed as changed_told, frame_size, spec_at, specs_of, unit_at, with_block}
use Rattle.stack_ops.specs.declared.op.Op.{Op}
use Rattle.stack_ops.specs.declared.op.Op.TheVariants.{Fill, Put, Show, Seal, Write, Fetch, WritePi, FetchPi, Overwrite, Wait}
use Rattle.stack_ops.specs.declared.reply.Reply.{Reply}
use Rattle.stack_ops.specs.declared.reply.Reply.TheVariants.{Silent, Whole, Bad, Shown, Medium}
use Rattle.stack_laws.specs.Plan.{Plan, request_at}
use Rattle.stack_laws.specs.View.{View, is_admitted, op_at}
use Rattle.stack_steps.specs.declared.choice.Choice.{Choice}
use Rattle.stack_steps.specs.Does.{Chooses, Holds}
use Rattle.block_path.specs.Acts.{State}
use Rattle.block_path.specs.Blocks.{Sent}
use Rattle.block_path.specs.Routes.{host_type}
use Rattle.pi_tuple.specs.declared.checks.PiType.{PiType}
use Rattle.dix_adapter.specs.declared.adapter.Adapter.{Adapter}
use Rattle.dix_adapter.specs.Groups.{mode_of}
use Rattle.dix_adapter.specs.Ways.{blocks_told, site_of}
use Rattle.block_path.specs.Moves.{hidden}
use Rattle.volume_table.specs.Places.{place_in, volume_len}
use Rattle.stack_walk_laws.specs.Passed.{fates, fates_of, Backed, Carried, recorded, told, bad_from, changed, script_replies, script_walk, source_of as source_cell, whole_or_bad, Setting, each_from}
use Rattle.stack_walk_laws.specs.Finished.{FramesFit}
use Rattle.stack_walk_laws.specs.Sending.{NoneBefore}
use Rattle.stack_walk_laws.specs.Slots.{Status}
use Rattle.stack_walk_laws.specs.Ground.{Ground}
use Rattle.stack_walk_laws.specs.Seals.{IsSealed}
use Rattle.stack_walk_laws.specs.Statuses.{status_in}
use Rattle.stack_walk_laws.specs.Units.{AreAtUnits}
use Rattle.stack_core.specs.declared.kept.Room.{Room}
use Rattle.stack_core.specs.declared.sheet.Sheet.{Sheet}
use Rattle.stack_core.specs.declared.stack.Stack.{Stack}
use Rattle.stack_walk_laws.specs.AtTheEnd.{EndsAsFalling}
use Rattle.stack_walk_laws.specs.Flips.{Flips, with_flips}
use Rattle.rig_api.specs.declared.change.Change.{Change}
use Rattle.stack_ops.specs.Ops.{is_overwrite}
use Rattle.stack_core.specs.Courses.{Course, Falling, FollowsBy, Straight}
use Rattle.stack_core.specs.Doing.{CanReach}
use Rattle.stack_walk_laws.specs.Moved.{why_of}
use Rattle.stack_walk_laws.specs.Requests.{requests_from}
use Rattle.stack_core.specs.Rooms.{Suits}
use Rattle.stack_walk_laws.specs.Sheets.{io_at, op_in}
use Rattle.stack_walk_laws.specs.Shifts.{shifted_by}
use Rattle.stack_core.specs.Stacks.{HasStep, plan_in, room_at}
use Rattle.page_pool.specs.declared.TheConstants.{PAGE}

-- ---- how far each block is

abbrev pub shown_by : Reply → List ℕ
shown_by Silent = []
shown_by Whole = []
shown_by (Bad blocks) = []
shown_by (Shown bytes) = bytes
shown_by Medium = []

-- what op i, from 0, shows at place k
abbrev pub shown_in : List Reply → (i k : ℕ) → List ℕ
shown_in replies i zero = shown_by (get_or replies i Silent)
shown_in replies i (suc k) = []

-- with what block k of op i is listed
abbrev pub why_in : (starts : List ℕ) → List Fate → (i k : ℕ) → Option Why
why_in starts held i k = why_of (get_or held (get_or starts i 0 + k) Untouched)

-- the pages of a stack, what became of each block so far, the room for replies, and these
pub record Data : Type 0 where
  pub pool : List (List ℕ)
  pub starts : List ℕ
  pub held : List Fate
  pub rooms : List Room
  pub replies : List Reply

abbrev pub data_of : Stack → Data
data_of s = record { pool = s.pool; starts = s.kept.starts.items; held = s.kept.held.items; rooms = s.rooms.items; replies = s.replies.items }

-- the status of each block, where the stack shows this view
abbrev pub status_of : Plan → Data → View → ℕ → ℕ → Status
status_of p d v = status_in p v (shown_in d.replies) (why_in d.starts d.held)

-- ---- replies

-- what an op replies, whose blocks are listed so
abbrev pub IsReply : Op → List (Option Why) → Reply → Type 0
IsReply (Fill seg byte) whys reply = reply ≡ Silent
IsReply (Put page off bytes) whys reply = reply ≡ Silent
IsReply (Show seg) whys reply = (bytes : List ℕ) × (reply ≡ Shown bytes)
IsReply (Seal n body tuples app rtag) whys reply = reply ≡ Silent
IsReply (Write v n body app) whys reply = reply ≡ whole_or_bad (bad_from 0 whys)
IsReply (Fetch v n body) whys reply = reply ≡ whole_or_bad (bad_from 0 whys)
IsReply (WritePi v n body tuples) whys reply = reply ≡ whole_or_bad (bad_from 0 whys)
IsReply (FetchPi v n body tuples) whys reply = reply ≡ whole_or_bad (bad_from 0 whys)
IsReply (Overwrite dev lba change) whys reply = (reply ≡ Silent) ⊎ (reply ≡ Medium)
IsReply Wait whys reply = reply ≡ Silent

-- an overwrite whose store call failed
abbrev pub is_medium : Reply → Bool
is_medium Silent = false
is_medium Whole = false
is_medium (Bad blocks) = false
is_medium (Shown bytes) = false
is_medium Medium = true

-- the setting says which overwrites failed, as the stack replied; ops are numbered from 1 there
abbrev pub HasFails : Setting → List Reply → Type 0
HasFails m replies = (i : ℕ) → m.fails (suc i) ≡ is_medium (get_or replies i Silent)

-- No overwrite failed yet.
abbrev pub NoneFailed : List Reply → Type 0
NoneFailed replies = (i : ℕ) → is_medium (get_or replies i Silent) ≡ false

-- Where it is known which store calls failed, an overwrite flips its block just where it replied that its call failed.
abbrev pub FailedBy : Course → (i : ℕ) → Op → Reply → Type 0
FailedBy Straight i op reply = Unit {0}
FailedBy (Falling flips) i op reply = is_overwrite op ≡ true → is_some (flips i) ≡ is_medium reply

-- ---- between two steps

-- What no step changes: the ops are the script's of this setting, in n bytes of pages, over the adapter's units.
pub record IsOver (m : Setting) (n : ℕ) (opening : State) (sheet : Sheet) (a : Adapter) (host : PiType) : Type 0 where
  pub ground : Ground m n (length opening.logs) sheet.ops
  pub found : fates sheet.ops ≤ length opening.fates
  pub pages : ℕ
  pub bytes : n ≡ PAGE * pages
  pub ios : sheet.ios.items ≡ requests_from m.mode.dix pages sheet.ops
  pub shifted : sheet.shifted.items ≡ shifted_by m.site.faults (length sheet.ops)
  pub mode : m.mode ≡ mode_of a
  pub ty : m.ty ≡ a.ty
  pub host_is : host ≡ host_type m.ty
  pub size : (i : ℕ) → 0 < (io_at sheet.ios.items i).count → block_size (io_at sheet.ios.items i) ≡ m.size
  pub entries : m.entries ≡ sheet.table.entries
  pub faults : m.site.faults ≡ a.tamper
  pub seals : (i : ℕ) → i < length sheet.ops → IsSealed m (op_in sheet.ops i)

-- A stack of this plan, with these data, that shows this view follows the walk of its script over a setting, with these entries and ends on record: its pages are those of the walk's state;
-- each op that has ended has its reply, which says of an overwrite whether it failed, and each other one the room for it.
pub record Follow (course : Course) (over : Setting) (n : ℕ) (opening : State) (es : List Sent) (p : Plan) (ops : List Op) (d : Data) (v : View) (now : State) : Type 0 where
  pub bytes : now.bytes ≡ flat d.pool
  pub whole : AreWhole d.pool
  pub follows : FollowsBy course over n ops opening (status_of p d v) now es
  pub begun : (i : ℕ) → is_admitted (op_at v i).phase ≡ true → 0 < (request_at p i).count
  pub replied : (i : ℕ) → i < length ops → has_ended (op_at v i).phase ≡ true → IsReply (op_in ops i) (each_from 0 (fates_of (op_in ops i)) (why_in d.starts d.held i)) (get_or d.replies i Silent)
  pub failed : (i : ℕ) → i < length ops → has_ended (op_at v i).phase ≡ true → FailedBy course (suc i) (op_in ops i) (get_or d.replies i Silent)
  pub suited : (i : ℕ) → i < length ops → has_ended (op_at v i).phase ≡ false → Suits (op_in ops i) (room_at d.rooms i)

-- The stack goes on from one view to the next: it follows the walk still, with this left of the stored blocks, and what wasn't carried is not on record.
pub record GoesOn (course : Course) (over : Setting) (n : ℕ) (opening : State) (es : List Sent) (p : Plan) (ops : List Op) (d d' : Data) (v v' : View) (left : List (List ℕ)) : Type 0 where
  pub after : State
  pub follow : Follow course over n opening es p ops d' v' after
  pub blocks : after.blocks ≡ left
  pub none_before : NoneBefore (status_of p d v) es → NoneBefore (status_of p d' v') es

-- A stack follows the walk of its script over a setting in one of the two ways, with these entries and ends on record and these stored blocks behind it.
pub record WalksBy (course : Course) (over : Setting) (n : ℕ) (opening : State) (es : List Sent) (left : List (List ℕ)) (s : Stack) : Type 0 where
  pub view : View
  pub holds : Holds (plan_in s.sheet) s.machine view
  pub now : State
  pub follow : Follow course over n opening es (plan_in s.sheet) s.sheet.ops (data_of s) view now
  pub none_before : NoneBefore (status_of (plan_in s.sheet) (data_of s) view) es
  pub blocks : now.blocks ≡ left

-- It does so over the setting as it is.
abbrev pub WalksOver : (over : Setting) (n : ℕ) (opening : State) (es : List Sent) (left : List (List ℕ)) → Stack → Type 0
WalksOver over n opening es left s = WalksBy Straight over n opening es left s

-- The devices of the volume's blocks have blocks of its size, as the rig's head tells them.
abbrev pub SizesFit : Setting → Standing → Type 0
SizesFit m st = (v : ℕ) → v < volume_len m.entries → (spec_at st (place_in m.entries v).0).size ≡ m.size

-- Over any rig, whose records from the first on are this log: what came of each block is what stands on record, and each frame that came has the wire's size.
pub record Walks (m : Setting) (n : ℕ) (opening : State) (first : ℕ) (s : Stack) (st : Standing) (log : List LogEntry) : Type 0 where
  pub over : IsOver m n opening s.sheet s.adapter s.host
  pub sizes : SizesFit m st
  pub recorded_from : first ≤ length log
  pub fit : FramesFit m (recorded m (drop first log))
  pub left : List (List ℕ)
  pub walks : WalksOver (told m (recorded m (drop first log))) n opening (recorded m (drop first log)) left s

-- ---- over a rig that tells its blocks

-- Over a rig that tells its blocks, with the stack's faults armed: what came of each block is the target's answer, and the cells of the stored blocks are those that the rig tells.
pub record WalksAtTarget (course : Course) (m : Setting) (n : ℕ) (opening : State) (first : ℕ) (s : Stack) (units : Option (List Stored)) (armed : List FaultLine) (st : Standing) (log : List LogEntry) : Type 0 where
  pub over : IsOver m n opening s.sheet s.adapter s.host
  pub sizes : SizesFit m st
  pub site : m.site ≡ site_of s.adapter (specs_of st)
  pub behind : AreAtUnits m (specs_of st) s.sheet.ops
  pub armed_are : armed ≡ s.adapter.tamper
  pub recorded_from : first ≤ length log
  pub us : List Stored
  pub told_are : units ≡ Some us
  pub walks : WalksBy course m n opening (recorded m (drop first log)) (blocks_told us) s

-- while no store call failed,
abbrev pub WalksTold : (m : Setting) (n : ℕ) (opening : State) (first : ℕ) → Stack → (units : Option (List Stored)) (armed : List FaultLine) → Standing → (log : List LogEntry) → Type 0
WalksTold m n opening first s units armed st log = WalksAtTarget Straight m n opening first s units armed st log

-- and whether or not some failed.
abbrev pub WalksFalling : (m : Setting) (n : ℕ) (opening : State) (first : ℕ) → Stack → (units : Option (List Stored)) (armed : List FaultLine) → Standing → (log : List LogEntry) → Type 0
WalksFalling m n opening first s units armed st log = (flips : Flips) × WalksAtTarget (Falling flips) m n opening first s units armed st log

-- the cells with which a stack begins: its pages are those of these, and no frame was carried yet
pub record Opens (opening : State) (s : Stack) : Type 0 where
  pub bytes : opening.bytes ≡ flat s.pool
  pub logs : (c : ℕ) → get_or opening.logs c [] ≡ []

-- A new stack follows the walk, over any rig with devices of blocks of this size, from the rig's next record on.
abbrev pub WalksAtFirst : Stack → Type 0
WalksAtFirst s = (m : Setting) (n : ℕ) (opening : State) (st : Standing) (log : List LogEntry)
    → Opens opening s → IsOver m n opening s.sheet s.adapter s.host → SizesFit m st → Walks m n opening (length log) s st log

-- So it does over a rig that tells its blocks, which are those of the opening, with its faults armed, where store calls may fail.
abbrev pub WalksFallingAtFirst : Stack → Type 0
WalksFallingAtFirst s = (m : Setting) (n : ℕ) (opening : State) (us : List Stored) (armed : List FaultLine) (st : Standing) (log : List LogEntry)
    → Opens opening s → IsOver m n opening s.sheet s.adapter s.host → SizesFit m st → m.site ≡ site_of s.adapter (specs_of st) → AreAtUnits m (specs_of st) s.sheet.ops
    → armed ≡ s.adapter.tamper → opening.blocks ≡ blocks_told us → WalksFalling m n opening (length log) s (Some us) armed st log

-- And it does so while none failed.
abbrev pub WalksToldAtFirst : Stack → Type 0
WalksToldAtFirst s = (m : Setting) (n : ℕ) (opening : State) (us : List Stored) (armed : List FaultLine) (st : Standing) (log : List LogEntry)
    → Opens opening s → IsOver m n opening s.sheet s.adapter s.host → SizesFit m st → m.site ≡ site_of s.adapter (specs_of st) → AreAtUnits m (specs_of st) s.sheet.ops
    → armed ≡ s.adapter.tamper → opening.blocks ≡ blocks_told us → WalksTold m n opening (length log) s (Some us) armed st log

-- ---- from one step to the next

-- some word chooses this step
abbrev pub IsChosen : Stack → Choice → Type 0
IsChosen s c = (word : ℕ) × Chooses (plan_in s.sheet) s.machine word c × HasStep (plan_in s.sheet) s.machine

-- A stack that follows the walk over a setting still does.
abbrev pub WalksOn : (old new : Stack) → Type 0
WalksOn old new = (course : Course) (over : Setting) (n : ℕ) (opening : State) (es : List Sent) (left : List (List ℕ)) → IsOver over n opening old.sheet old.adapter old.host → WalksBy course over n opening es left old → WalksBy course over n opening es left new

-- what an op that is no request leaves of the stored blocks
abbrev pub op_left : Setting → Op → List (List ℕ) → List (List ℕ)
op_left m (Fill seg byte) blocks = blocks
op_left m (Put page off bytes) blocks = blocks
op_left m (Show seg) blocks = blocks
op_left m (Seal n body tuples app rtag) blocks = blocks
op_left m (Write v n body app) blocks = blocks
op_left m (Fetch v n body) blocks = blocks
op_left m (WritePi v n body tuples) blocks = blocks
op_left m (FetchPi v n body tuples) blocks = blocks
op_left m (Overwrite dev lba change) blocks = set blocks (m.site.cell dev lba) (changed change (get_or blocks (source_cell m.site dev lba change) []))
op_left m Wait blocks = blocks

-- and of the units that a rig tells
abbrev pub units_left : Op → List Stored → List Stored
units_left (Fill seg byte) us = us
units_left (Put page off bytes) us = us
units_left (Show seg) us = us
units_left (Seal n body tuples app rtag) us = us
units_left (Write v n body app) us = us
units_left (Fetch v n body) us = us
units_left (WritePi v n body tuples) us = us
units_left (FetchPi v n body tuples) us = us
units_left (Overwrite dev lba change) us = with_block us dev lba (changed_told us change (block_at us dev lba))
units_left Wait us = us

-- What an op leaves of them is known by its reply: of an overwrite where it doesn't say that its store call failed.
abbrev pub IsKnown : Op → Reply → Type 0
IsKnown (Fill seg byte) reply = Unit {0}
IsKnown (Put page off bytes) reply = Unit {0}
IsKnown (Show seg) reply = Unit {0}
IsKnown (Seal n body tuples app rtag) reply = Unit {0}
IsKnown (Write v n body app) reply = Unit {0}
IsKnown (Fetch v n body) reply = Unit {0}
IsKnown (WritePi v n body tuples) reply = Unit {0}
IsKnown (FetchPi v n body tuples) reply = Unit {0}
IsKnown (Overwrite dev lba change) reply = reply ≡ Silent
IsKnown Wait reply = Unit {0}

-- where an overwrite fails, some block of its size is left in its place, and nothing else is changed
abbrev pub LeavesOwn : Op → List Stored → Option (List Stored) → Type 0
LeavesOwn (Fill seg byte) us units = Unit {0}
LeavesOwn (Put page off bytes) us units = Unit {0}
LeavesOwn (Show seg) us units = Unit {0}
LeavesOwn (Seal n body tuples app rtag) us units = Unit {0}
LeavesOwn (Write v n body app) us units = Unit {0}
LeavesOwn (Fetch v n body) us units = Unit {0}
LeavesOwn (WritePi v n body tuples) us units = Unit {0}
LeavesOwn (FetchPi v n body tuples) us units = Unit {0}
LeavesOwn (Overwrite dev lba change) us units = (block : List ℕ) × ((length block ≡ frame_size (unit_at us dev)) × (units ≡ Some (with_block us dev lba block)))
LeavesOwn Wait us units = Unit {0}

-- an op that is done as it is, by its reply: where it is known which store calls failed, it says that its own didn't
abbrev pub KnownBy : Course → Op → Reply → Type 0
KnownBy Straight op reply = Unit {0}
KnownBy (Falling flips) op reply = IsKnown op reply

-- An overwrite is admitted whose store call fails, and the count of faults rises. Whatever it leaves in its block, of its size, the stack follows the walk with that; and a rig that tells its blocks tells what it left there.
pub record Fails (before after : RigState) (op : Op) (old new : Stack) : Type 0 where
  pub dev : ℕ
  pub lba : ℕ
  pub change : Change
  pub is : op ≡ Overwrite dev lba change
  pub rose : Calm before.faults after.faults → ⊥
  pub walks : (flips : Flips) (over : Setting) (n : ℕ) (opening : State) (es : List Sent) (left : List (List ℕ)) → IsOver over n opening old.sheet old.adapter old.host → WalksBy (Falling flips) over n opening es left old
      → (block : List ℕ) → length block ≡ length (get_or left (over.site.cell dev lba) []) → (flips' : Flips) × WalksBy (Falling flips') over n opening es (set left (over.site.cell dev lba) block) new
  pub tells : (us : List Stored) → before.units ≡ Some us → (block : List ℕ) × ((length block ≡ frame_size (unit_at us dev)) × (after.units ≡ Some (with_block us dev lba block)))

-- An op is admitted. Where a rig tells its blocks, it tells afterwards what the op leaves; or the op is an overwrite that failed, and the count of faults rose.
pub record Enters (before after : RigState) (old new : Stack) : Type 0 where
  pub op : Op
  pub reply : Reply
  pub reach : CanReach (is_some before.image) before.standing op
  pub known : IsKnown op reply ⊎ Fails before after op old new
  pub walks : (course : Course) → KnownBy course op reply → (over : Setting) (n : ℕ) (opening : State) (es : List Sent) (left : List (List ℕ)) → IsOver over n opening old.sheet old.adapter old.host → WalksBy course over n opening es left old
      → WalksBy course over n opening es (op_left over op left) new
  pub tells : (us : List Stored) → before.units ≡ Some us → IsKnown op reply → after.units ≡ Some (units_left op us)

-- ---- at the end

-- Over a rig that tells its blocks: the stack's replies, the script's pages and the stored blocks are those of the script's walk at the target, and the log holds what the walk carries and backs the replies.
pub record EndsTold (m : Setting) (n : ℕ) (opening : State) (ops : List Op) (s : Stack) (us : List Stored) (log : List LogEntry) : Type 0 where
  pub replies : s.replies.items ≡ script_replies m ops (hidden n opening)
  pub pages : take n (flat s.pool) ≡ (script_walk m ops (hidden n opening)).bytes
  pub blocks : blocks_told us ≡ (script_walk m ops (hidden n opening)).blocks
  pub carried : Carried m ops (hidden n opening) log
  pub backed : Backed m ops (hidden n opening) log s.replies.items

-- An overwrite flips its block just where it replied that its store call failed.
abbrev pub FlipsAsReplied : Flips → List Op → List Reply → Type 0
FlipsAsReplied flips ops replies = (i : ℕ) → i < length ops → is_overwrite (op_in ops i) ≡ true → is_some (flips (suc i)) ≡ is_medium (get_or replies i Silent)

-- And where store calls failed: they are those of the script's walk in which just these fail, and in which an overwrite whose own failed flips its block.
pub record EndsFallen (m : Setting) (n : ℕ) (opening : State) (ops : List Op) (pages : List ℕ) (blocks : List (List ℕ)) (replies : List Reply) (es : List Sent) : Type 0 where
  pub flips : Flips
  pub replied : FlipsAsReplied flips ops replies
  pub ends : EndsAsFalling m n (with_flips flips 1 ops) opening pages blocks replies es
