use Rattle.std.specs.Prelude.{ℕ, ◌≡◌, ◌+◌, ◌<◌, ◌≤◌, min, List, [], ◌∷◌, ◌++◌, drop, length, replicate, set, Option, Some, None}
use Rattle.bio_core.specs.declared.fate.Why.{Why}
use Rattle.fault_schedule.specs.declared.fault.FaultLine.{FaultLine}
use Rattle.rig_api.specs.Log.{LogEntry}
use Rattle.rig_api.specs.State.{RigState}
use Rattle.stack_ops.specs.declared.reply.BadBlock.{BadBlock}
use Rattle.stack_ops.specs.declared.reply.Reply.{Reply}
use Rattle.stack_ops.specs.declared.reply.Reply.TheVariants.{Bad, Medium, Shown, Silent, Whole}
use Rattle.rig_api.specs.Target.{Stored}
use Rattle.volume_table.specs.declared.device.DeviceInfo.{DeviceInfo}
use Rattle.volume_table.specs.Tables.{Table}
use Rattle.script_text.specs.declared.script.Script.{Script}
use Rattle.mirror_volume.specs.LegsPassed.{HasFallen, HasWalked, IsBackedBy, SendsFor, by_words, RoseBy, medium_replies, unscheduled_mediums, Stack}

-- Requests on the legs of a mirror, each as a stack of its own.

-- One of them: its script, the words of its steps, the records that it made, and its stack at the end.
pub record LegRun : Type 0 where
  pub own : Script
  pub words : List (ℕ × ℕ)
  pub records : List LogEntry
  pub stack : Stack

-- what its ops replied, and its pages
abbrev pub replies_of : LegRun → List Reply
replies_of r = r.stack.replies.items

abbrev pub pool_of : LegRun → List (List ℕ)
pool_of r = r.stack.pool

-- Each of these runs a script of which this holds.
abbrev pub AllOwn : (Script → Type 0) → List LegRun → Type 0
AllOwn P [] = Unit {0}
AllOwn P (r ∷ runs) = P r.own × AllOwn P runs

-- One request alone was run: this script, and of the run this holds.
pub record OneRun (own : Script) (So : LegRun → Type 0) (runs : List LegRun) : Type 0 where
  pub run : LegRun
  pub only : runs ≡ run ∷ []
  pub own_is : run.own ≡ own
  pub so : So run

abbrev pub all_records : List LegRun → List LogEntry
all_records [] = []
all_records (r ∷ runs) = r.records ++ all_records runs

-- how many lines of their replies name the medium and are no block that a fault line of the run's own script says it fails
abbrev pub all_unscheduled : List LegRun → ℕ
all_unscheduled [] = 0
all_unscheduled (r ∷ runs) = unscheduled_mediums r.own.faults (replies_of r) + all_unscheduled runs

-- the faults that are armed after these runs: those of the last one's script, or those from before
abbrev pub armed_after : List LegRun → List FaultLine → List FaultLine
armed_after [] was = was
armed_after (r ∷ runs) was = armed_after runs r.own.faults

-- The records of each back its replies, and are those that its steps send by its words.
abbrev pub AllBacked : Table → List DeviceInfo → List LegRun → Type 0
AllBacked t devices [] = Unit {0}
AllBacked t devices (r ∷ runs) = IsBackedBy r.own t devices r.records (replies_of r) × (SendsFor (by_words r.own r.words) t r.records (replies_of r) × AllBacked t devices runs)

-- Each goes on in the schedule where the one before it ended: these entries are used before them and after them.
abbrev pub GoOn : (schedule : List (ℕ × ℕ)) → (used : ℕ) → List LegRun → (used' : ℕ) → Type 0
GoOn schedule used [] used' = used' ≡ used
GoOn schedule used (r ∷ runs) used' = (r.words ≡ drop used schedule) × GoOn schedule (used + min (length r.words) r.stack.machine.steps) runs used'

-- Each was done at the target, one after another.
abbrev pub AllWalked : Table → (us : List Stored) → List LegRun → (left : List Stored) → Type 0
AllWalked t us [] left = left ≡ us
AllWalked t us (r ∷ runs) left = (next : List Stored) × (HasWalked r.own t us next (pool_of r) r.records (replies_of r) × AllWalked t next runs left)

-- So it was but for what the store calls that failed left.
abbrev pub AllFallen : Table → (us : List Stored) → List LegRun → (left : List Stored) → Type 0
AllFallen t us [] left = left ≡ us
AllFallen t us (r ∷ runs) left = (next : List Stored) × (HasFallen r.own t us next (pool_of r) r.records (replies_of r) × AllFallen t next runs left)

-- No store call failed, by what is told: no request on a leg names the medium but as fault lines of its own script say, and no overwrite replied that its call failed.
pub record NoneUnscheduled (runs : List LegRun) (replies : List Reply) : Type 0 where
  pub legs : all_unscheduled runs ≡ 0
  pub overwrites : medium_replies replies ≡ 0

-- These were run over a rig, one after another: their records stand there in order, and back their replies. Lines of these that name the medium, but for the blocks that fault lines name, are at most as many as the count of faults rose. The last one's faults are armed.
-- Where the rig tells its blocks, and no line of theirs names the medium but as fault lines say, each was done at the target; and whatever lines name it, so it was but for what the store calls that failed left.
pub record RanLegs (t : Table) (devices : List DeviceInfo) (runs : List LegRun) (before after : RigState) : Type 0 where
  pub standing : after.standing ≡ before.standing
  pub faults : before.faults ≤ after.faults
  pub records : after.log ≡ before.log ++ all_records runs
  pub backed : AllBacked t devices runs
  pub medium : RoseBy (all_unscheduled runs) before.faults after.faults
  pub armed : after.armed ≡ armed_after runs before.armed
  pub told : (us : List Stored) → before.units ≡ Some us → all_unscheduled runs ≡ 0 → (left : List Stored) × ((after.units ≡ Some left) × AllWalked t us runs left)
  pub fallen : (us : List Stored) → before.units ≡ Some us → (left : List Stored) × ((after.units ≡ Some left) × AllFallen t us runs left)

-- ---- what was found of each block

abbrev pub noted : List BadBlock → List (Option Why) → List (Option Why)
noted [] found = found
noted (b ∷ blocks) found = noted blocks (set found b.k (Some b.why))

-- by the reply of a request of n blocks
abbrev pub found_in : (n : ℕ) → Reply → List (Option Why)
found_in n Silent = replicate n None
found_in n Whole = replicate n None
found_in n (Bad blocks) = noted blocks (replicate n None)
found_in n (Shown bytes) = replicate n None
found_in n Medium = replicate n None

-- by the replies of a request's own script, whose last op it is
abbrev pub found_by : (n : ℕ) → List Reply → List (Option Why)
found_by n [] = replicate n None
found_by n (reply ∷ []) = found_in n reply
found_by n (reply ∷ next ∷ replies) = found_by n (next ∷ replies)

-- What the last op lists are blocks of a request of n.
abbrev pub AreBelow : (n : ℕ) → List BadBlock → Type 0
AreBelow n [] = Unit {0}
AreBelow n (b ∷ blocks) = (b.k < n) × AreBelow n blocks

abbrev pub Fits : (n : ℕ) → Reply → Type 0
Fits n Silent = Unit {0}
Fits n Whole = Unit {0}
Fits n (Bad blocks) = AreBelow n blocks
Fits n (Shown bytes) = Unit {0}
Fits n Medium = Unit {0}

abbrev pub LastFits : List Reply → (n : ℕ) → Type 0
LastFits [] n = Unit {0}
LastFits (reply ∷ []) n = Fits n reply
LastFits (reply ∷ next ∷ replies) n = LastFits (next ∷ replies) n
