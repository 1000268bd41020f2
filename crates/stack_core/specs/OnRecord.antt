-- What stands on record of the commands of a run.
use Rattle.std.specs.Prelude.{◌≡◌, ◌≤◌, ◌⊎◌, ℕ, ◌+◌, true, false, not, ◌&&◌, if◌then◌else◌, List, [], ◌∷◌, ◌++◌, get_or, map, replicate, Ok}
use Rattle.std.specs.List.{AllByRecursion as Each}
use Rattle.pi_tuple.specs.Finds.{is_zero}
use Rattle.pi_tuple.specs.declared.checks.PiType.{PiType}
use Rattle.bio_core.specs.declared.bio.Bio.{Bio}
use Rattle.bio_core.specs.declared.fate.Fate.{Fate}
use Rattle.bio_core.specs.declared.fate.Fate.TheVariants.{Good, Bad, Untouched}
use Rattle.bio_core.specs.declared.fate.Why.{Why}
use Rattle.bio_core.specs.declared.request.Dir.TheVariants.{Read as Reads, Write as Writes}
use Rattle.cdb_codec.specs.Decoded.{decoded}
use Rattle.cdb_codec.specs.Forms.{Fits, form}
use Rattle.cdb_codec.specs.Rule.{chosen}
use Rattle.cdb_codec.specs.declared.choice.Dir2.{Dir2}
use Rattle.cdb_codec.specs.declared.command.Cdb.{Cdb}
use Rattle.block_path.specs.declared.mode.Mode.{Mode}
use Rattle.dix_adapter.specs.declared.adapter.Adapter.{Adapter}
use Rattle.dix_adapter.specs.Carried.{any_fails}
use Rattle.dix_adapter.specs.Groups.{blocks_in, label_of, mode_of}
use Rattle.merge_queue.specs.Groups.{size}
use Rattle.rig_api.specs.Log.{LogEntry as Record, labels_of}
use Rattle.rig_api.specs.Requests.{request_of}
use Rattle.rig_api.specs.declared.request.Request.{Request}
use Rattle.rig_api.specs.declared.request.Request.TheVariants.{Read, Write, Verify, ReadCapacity}
use Rattle.stack_ops.specs.declared.reply.BadBlock.{BadBlock}
use Rattle.stack_ops.specs.declared.reply.Reply.{Reply}
use Rattle.stack_ops.specs.declared.reply.Reply.TheVariants.{Silent, Whole, Bad as BadReply, Shown, Medium}
use Rattle.stack_laws.specs.Comes.{Comes, entry_at}
use Rattle.stack_laws.specs.Formed.{IsGroup}
use Rattle.stack_laws.specs.Plan.{Plan}
use Rattle.stack_laws.specs.Runs.{ScheduleEntry, SentCommand, sent}
use Rattle.stack_laws.specs.Steps.{Step, can, step}
use Rattle.stack_laws.specs.View.{Command, OpView, View, no_op}
use Rattle.stack_steps.specs.declared.choice.Choice.{Choice}
use Rattle.stack_steps.specs.declared.machine.Machine.{Machine}
use Rattle.stack_steps.specs.Does.{Flies, Holds, Takes}
use Rattle.stack_steps.specs.Shows.{Means}
use Rattle.stack_laws.specs.Sound.{HasBlocks, OnDevices, Settles}
use Rattle.stack_core.specs.declared.stack.Stack.{Stack}
use Rattle.stack_core.specs.Stacks.{plan_in}

-- ---- records

-- a command asks for just these blocks, in this direction
abbrev pub AsksFor : Request → SentCommand → Type 0
AsksFor (Read c) s = (s.dir ≡ Reads) × (c.lba ≡ s.lba) × (c.n ≡ s.count)
AsksFor (Write c) s = (s.dir ≡ Writes) × (c.lba ≡ s.lba) × (c.n ≡ s.count)
AsksFor (Verify c) s = ⊥
AsksFor (ReadCapacity len) s = ⊥

-- the record of a command for these blocks of this device
pub record IsRecordOf (s : SentCommand) (e : Record) : Type 0 where
  pub dev : e.what.dev ≡ s.dev
  pub cdb : Cdb
  pub decodes : decoded e.what.cdb ≡ Ok cdb
  pub asks : AsksFor (request_of cdb) s

-- the records are those of these commands, in order and one for one
abbrev pub AreRecords : List SentCommand → List Record → Type 0
AreRecords [] [] = Unit {0}
AreRecords [] (e ∷ es) = ⊥
AreRecords (s ∷ ss) [] = ⊥
AreRecords (s ∷ ss) (e ∷ es) = IsRecordOf s e × AreRecords ss es

-- The same, but that the adapter held some back, of each of which a block is bad.
abbrev pub AreOnRecord : List Command → List Record → Type 0
AreOnRecord [] [] = Unit {0}
AreOnRecord [] (e ∷ es) = ⊥
AreOnRecord (c ∷ cs) [] = (any_fails c.fates ≡ true) × AreOnRecord cs []
AreOnRecord (c ∷ cs) (e ∷ es) = (IsRecordOf (sent c) e × AreOnRecord cs es) ⊎ ((any_fails c.fates ≡ true) × AreOnRecord cs (e ∷ es))

-- ---- forms

-- READ or WRITE of these blocks in the form that units of this type and the mode call for: of 32 bytes in type 2 with a protect field that isn't 0, else of 10 bytes where they reach, else of 16.
-- The protect field is the mode's where tuples travel to the target, else 0; in the form of 32 bytes the address is the expected reference tag.
abbrev pub command_by : Mode → PiType → Dir2 → (lba n : ℕ) → Cdb
command_by mode ty dir lba n = chosen ty dir lba n (if mode.dif && not (is_zero ty) then mode.protect else 0) mode.app mode.mask

-- A record of such a command.
pub record IsFormed (mode : Mode) (ty : PiType) (e : Record) : Type 0 where
  pub dir : Dir2
  pub lba : ℕ
  pub n : ℕ
  pub fits : Fits (command_by mode ty dir lba n)
  pub cdb : e.what.cdb ≡ form (command_by mode ty dir lba n)

-- ---- blocks of requests

-- The record of a group's command: of blocks of the plan's requests, each where it lies, one behind another on one device. Its labels are those of the blocks that were done and of the one where it ended.
pub record IsOfRequests (p : Plan) (e : Record) : Type 0 where
  pub dev : ℕ
  pub group : List Bio
  pub some : HasBlocks group
  pub is_group : IsGroup p dev group
  pub is_record : IsRecordOf (sent (record { dev = dev; bios = group; fates = []; completed = false })) e
  pub labels : e.labels ≡ labels_of e.what.cdb e.what.outcome (map label_of (blocks_in group))

-- ---- bad blocks

-- a block that is settled and kept as bad
pub record IsKeptBad (ops : List OpView) (starts : List ℕ) (held : List Fate) : Type 0 where
  pub op : ℕ
  pub k : ℕ
  pub why : Why
  pub settled : get_or (get_or ops op no_op).settled k false ≡ true
  pub is_bad : get_or held (get_or starts op 0 + k) Untouched ≡ Bad why

-- A command of which no block is bad has only good ones. One of which a block is bad is in flight, or a bad block is kept.
pub record IsTraced (ops : List OpView) (starts : List ℕ) (held : List Fate) (c : Command) : Type 0 where
  pub good : any_fails c.fates ≡ false → c.fates ≡ replicate (size c.bios) Good
  pub bad : any_fails c.fates ≡ true → (c.completed ≡ false) ⊎ IsKeptBad ops starts held

abbrev pub AreTraced : (ops : List OpView) (starts : List ℕ) (held : List Fate) → List Command → Type 0
AreTraced ops starts held [] = Unit {0}
AreTraced ops starts held (c ∷ cs) = IsTraced ops starts held c × AreTraced ops starts held cs

-- ---- a run so far

-- A machine that keeps these fates has come so far by a schedule, and these records were made since its first step.
pub record HasSentBy (es : List ScheduleEntry) (p : Plan) (m : Machine) (starts : List ℕ) (held : List Fate) (log : List Record) : Type 0 where
  pub view : View
  pub holds : Holds p m view
  pub comes : Comes p es view.steps view
  pub on_record : AreOnRecord view.commands log
  pub traced : AreTraced view.ops starts held view.commands

abbrev pub HasSent : List ScheduleEntry → Stack → List Record → Type 0
HasSent es s log = HasSentBy es (plan_in s.sheet) s.machine s.kept.starts.items s.kept.held.items log

-- A step that is the next one of a schedule goes on so, by the records that it makes; each is of a group of the plan, in the form that the adapter calls for.
pub record SendsOn (word cut : ℕ) (old new : Stack) (log log' : List Record) : Type 0 where
  pub more : List Record
  pub records : log' ≡ log ++ more
  pub formed : Each (IsFormed (mode_of old.adapter) old.adapter.ty) more
  pub of_requests : Each (IsOfRequests (plan_in old.sheet)) more
  pub on : (es : List ScheduleEntry) (before : List Record) → entry_at es old.machine.steps ≡ record { word = word; cut = cut } → HasSent es old before → HasSent es new (before ++ more)

-- ---- the parts of a step

-- a record was put behind the log: that of this group with its fates, in the form of mode and type, of blocks of the plan's requests
abbrev pub PutsRecord : Adapter → Plan → (d : ℕ) → List Bio → List Fate → (log log' : List Record) → Type 0
PutsRecord a p d group fates log log' =
    (e : Record) × (log' ≡ log ++ (e ∷ [])) × IsRecordOf (sent (record { dev = d; bios = group; fates = fates; completed = false })) e × IsFormed (mode_of a) a.ty e × IsOfRequests p e

-- A group was taken and sent by this adapter. It is on record, in the form that the adapter calls for, but where the adapter held it back, since a block is bad; where none is, all are good.
pub record Carries (a : Adapter) (p : Plan) (m : Machine) (d i : ℕ) (m' : Machine) (log log' : List Record) : Type 0 where
  pub taken : Machine
  pub group : List Bio
  pub fates : List Fate
  pub takes : Takes p m d i group taken
  pub flies : Flies p taken d group fates m'
  pub settles : Settles group fates
  pub good : any_fails fates ≡ false → fates ≡ replicate (size group) Good
  pub records : PutsRecord a p d group fates log log' ⊎ ((any_fails fates ≡ true) × (log' ≡ log))

-- bad blocks are kept when the step of this choice is done, whichever view the machine showed
abbrev pub Traces : Plan → Machine → Choice → (starts : List ℕ) (held : List Fate) (starts' : List ℕ) (held' : List Fate) → Type 0
Traces p m c starts held starts' held' = (v : View) (t : Step) (cut : ℕ) → Holds p m v → can p v t ≡ true → Means p v c t → AreTraced v.ops starts held v.commands
    → AreTraced (step p v t cut []).ops starts' held' (step p v t cut []).commands

-- ---- the plan of a run

-- A plan has a queue for each device up to the last one on which a block of a request lies, and no more.
pub record HasQueues (p : Plan) : Type 0 where
  pub on : OnDevices p
  pub least : (n : ℕ) → OnDevices (record p { devices = n }) → p.devices ≤ n

-- ---- replies

-- the bad blocks that a reply lists
abbrev pub bad_blocks : Reply → List BadBlock
bad_blocks Silent = []
bad_blocks Whole = []
bad_blocks (BadReply blocks) = blocks
bad_blocks (Shown bytes) = []
bad_blocks Medium = []

-- no reply lists a block
abbrev pub ListsNone : List Reply → Type 0
ListsNone replies = (i : ℕ) → bad_blocks (get_or replies i Silent) ≡ []
