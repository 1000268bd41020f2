-- How a script on a mirror gets on over a rig: op by op, and then its repair.
use Rattle.std.specs.Prelude.{All, ℕ, zero, suc, false, ◌≡◌, ◌+◌, ◌<◌, ◌≤◌, ◌⊎◌, List, [], ◌∷◌, ◌++◌, length, Some}
use Rattle.page_pool.specs.Cells.{flat}
use Rattle.rig_api.specs.Target.{Stored}
use Rattle.volume_table.specs.declared.device.DeviceInfo.{DeviceInfo}
use Rattle.dix_adapter.specs.Ways.{blocks_told, shapes_of}
use Rattle.stack_ops.specs.declared.reply.Reply.{Reply}
use Rattle.script_text.specs.declared.script.Script.{Script}
use Rattle.run_command.specs.Passed.{table_of, RoseBy, medium_lines, medium_replies}
use Rattle.run_command.specs.Layers.{NamesFaults}
use Rattle.mirror_laws.specs.declared.marks.Marks.{Marks}
use Rattle.mirror_laws.specs.Mirror.{Mirror as Walk, mirror_replies, mirror_walk}
use Rattle.mirror_laws.specs.Repair.{WalkedRepair, mirror_repair}
use Rattle.mirror_volume.specs.declared.mirror.Mirror.{Mirror}
use Rattle.mirror_volume.specs.Passed.{AllBacked, AllOwn, GoOn, LegRun, NoneUnscheduled, RanLegs, all_records, all_unscheduled, armed_after, IsRepairOf, RepairBy, stretches_in, OpAsks, OpBy, OpRan, OpTells, Sides, StandsAt, half_of, mirror_setting, op_at}
use Rattle.mirror_volume.specs.Enough.{opening_over}
use Rattle.mirror_volume.specs.Plans.{sides_of}
use Rattle.fault_schedule.specs.Altered.{has_fail}
use Rattle.rig_api.specs.State.{RigState}

-- Between two ops: pages and marks, how many entries of the schedule are used, the replies so far, the runs on the legs so far, and what the rig shows of itself.
pub record Stage : Type 0 where
  pub sides : Sides
  pub used : ℕ
  pub replies : List Reply
  pub runs : List LegRun
  pub outside : RigState

abbrev pub stage_of : Mirror → List LegRun → RigState → Stage
stage_of r runs outside = record { sides = sides_of r; used = r.state.used; replies = r.replies.items; runs = runs; outside = outside }

-- None of its ops is done, and it stands at the begin of its walk, over whatever units.
pub record IsMirrorBegun (r : Mirror) : Type 0 where
  pub none : r.replies.items ≡ []
  pub unused : r.state.used ≡ 0
  pub stands : (us : List Stored) → StandsAt r.plan.script r.plan.devices.items us (sides_of r) [] us

-- Op k, counted from 0, was done: by its runs, which go on in the schedule.
pub record OneMore (s : Script) (devices : List DeviceInfo) (k : ℕ) (old new : Stage) : Type 0 where
  pub runs : List LegRun
  pub reply : Reply
  pub ran : OpRan (op_at s.ops k) (table_of s devices) devices runs old.outside new.outside
  pub goes : GoOn s.schedule old.used runs new.used
  pub by : OpBy s (half_of s devices) (k + 1) (op_at s.ops k) old.sides new.sides runs reply
  pub tells : OpTells (op_at s.ops k) reply old.outside new.outside
  pub replies_are : new.replies ≡ old.replies ++ (reply ∷ [])
  pub runs_are : new.runs ≡ old.runs ++ runs

-- The first k ops were done, one after another.
abbrev pub Stood : Script → List DeviceInfo → (begun : Stage) → ℕ → (now : Stage) → Type 0
Stood s devices begun zero now = now ≡ begun
Stood s devices begun (suc k) now = (old : Stage) × (Stood s devices begun k old × OneMore s devices k old now)

-- The records between these moments are those of the runs, a stretch for each and in their order, and each stretch backs its run's replies,
-- whose lines that name the medium, but for the blocks that `fail` lines name, are at most as many as the count of faults rose. The last one's faults are armed. The runs go on in the schedule, one where the one before it ended.
pub record InStretches (s : Script) (devices : List DeviceInfo) (runs : List LegRun) (used : ℕ) (before after : RigState) : Type 0 where
  pub standing : after.standing ≡ before.standing
  pub faults : before.faults ≤ after.faults
  pub records : after.log ≡ before.log ++ all_records runs
  pub backed : AllBacked (table_of s devices) devices runs
  pub medium : RoseBy (all_unscheduled runs) before.faults after.faults
  pub armed : after.armed ≡ armed_after runs before.armed
  pub goes : GoOn s.schedule 0 runs used

-- After k ops, over any rig: the lines that name the medium on the legs, but for the blocks that `fail` lines name, and the overwrites that failed are together at most as many as the count of faults rose;
-- and in a script without `fail` lines so are the lines of the replies that name it.
-- And over one that tells its blocks: where no request on a leg names the medium but as `fail` lines say, and no overwrite failed, pages, marks, stored blocks and replies are those of the mirror's walk;
-- and whatever lines name it, no block is listed as refused or short.
pub record Served (s : Script) (devices : List DeviceInfo) (begun : Stage) (k : ℕ) (now : Stage) : Type 0 where
  pub stood : Stood s devices begun k now
  pub count : length now.replies ≡ k
  pub stretches : InStretches s devices now.runs now.used begun.outside now.outside
  pub unscheduled : RoseBy (all_unscheduled now.runs + medium_replies now.replies) begun.outside.faults now.outside.faults
  pub lines : has_fail s.faults ≡ false → RoseBy (medium_lines now.replies) begun.outside.faults now.outside.faults
  pub told : (us : List Stored) → begun.outside.units ≡ Some us → NoneUnscheduled now.runs now.replies
      → (left : List Stored) × ((now.outside.units ≡ Some left) × StandsAt s devices us now.sides now.replies left)
  pub faults : (us : List Stored) → begun.outside.units ≡ Some us → (left : List Stored) × ((now.outside.units ≡ Some left) × All NamesFaults now.replies)

-- ---- where memory is wanting

-- Op k, or the repair behind all ops, is under way: requests of it were run on the legs.
pub record IsUnderWay (s : Script) (devices : List DeviceInfo) (k : ℕ) (stage : Stage) (after : RigState) (runs : List LegRun) (used : ℕ) : Type 0 where
  pub standing : after.standing ≡ stage.outside.standing
  pub goes : GoOn s.schedule stage.used runs used
  pub asks : ((k < length s.ops) × (OpRan (op_at s.ops k) (table_of s devices) devices runs stage.outside after × AllOwn (OpAsks s (half_of s devices) (k + 1) (op_at s.ops k) stage.sides.pool) runs))
      ⊎ ((k ≡ length s.ops) × (RanLegs (table_of s devices) devices runs stage.outside after × AllOwn (IsRepairOf s (half_of s devices)) runs))

-- The first k ops were done, and what comes behind them was broken off.
pub record Broke (s : Script) (devices : List DeviceInfo) (begun : Stage) (after : RigState) : Type 0 where
  pub k : ℕ
  pub stage : Stage
  pub served : Served s devices begun k stage
  pub runs : List LegRun
  pub used : ℕ
  pub under_way : IsUnderWay s devices k stage after runs used

-- ---- the whole

-- the walk of a mirror over these units, and the walk's repair
abbrev pub walk_over : Script → List DeviceInfo → List Stored → Walk
walk_over s devices us = mirror_walk (mirror_setting s devices us) (half_of s devices) s.ops (opening_over s us)

abbrev pub repair_over : Script → List DeviceInfo → List Stored → WalkedRepair
repair_over s devices us = mirror_repair (mirror_setting s devices us) (half_of s devices) (walk_over s devices us)

-- Replies and pages are those of the mirror's walk, and marks, stored blocks and counts are those of its repair.
pub record HasServedMirror (s : Script) (devices : List DeviceInfo) (us left : List Stored) (pool : List (List ℕ)) (replies : List Reply) (marks : List Marks) (repaired lost : ℕ) : Type 0 where
  pub shapes : shapes_of left ≡ shapes_of us
  pub replies_are : replies ≡ mirror_replies (mirror_setting s devices us) (half_of s devices) s.ops (opening_over s us)
  pub pages : flat pool ≡ (walk_over s devices us).state.bytes
  pub blocks : blocks_told left ≡ (repair_over s devices us).blocks
  pub marks_are : marks ≡ (repair_over s devices us).marks
  pub repaired_is : repaired ≡ (repair_over s devices us).repaired
  pub lost_is : lost ≡ (repair_over s devices us).lost

-- All ops were done, and then the repair, whose requests left what they may, whatever lines name the medium. Over any rig, the lines that name the medium on the legs, but for the blocks that `fail` lines name, and the overwrites that failed are together at most as many as the count of faults rose; and in a script without `fail` lines so are the lines of the replies that name it.
-- Over one that tells its blocks: where no request on a leg names the medium but as `fail` lines say, and no overwrite failed, it is the mirror's walk and its repair; and whatever lines name it, no block is listed as refused or short.
pub record Finished (s : Script) (devices : List DeviceInfo) (begun : Stage) (r : Mirror) (repaired lost : ℕ) (after : RigState) : Type 0 where
  pub stage : Stage
  pub served : Served s devices begun (length s.ops) stage
  pub pool : r.state.pool ≡ stage.sides.pool
  pub replies_are : r.replies.items ≡ stage.replies
  pub runs : List LegRun
  pub ran : RanLegs (table_of s devices) devices runs stage.outside after
  pub mended : RepairBy s (half_of s devices) 0 (stretches_in (half_of s devices)) (record { marks = stage.sides.marks; repaired = 0; lost = 0 }) (record { marks = r.state.marks.items; repaired = repaired; lost = lost }) runs
  pub stretches : InStretches s devices (stage.runs ++ runs) r.state.used begun.outside after
  pub unscheduled : RoseBy (all_unscheduled (stage.runs ++ runs) + medium_replies r.replies.items) begun.outside.faults after.faults
  pub lines : has_fail s.faults ≡ false → RoseBy (medium_lines r.replies.items) begun.outside.faults after.faults
  pub told : (us : List Stored) → begun.outside.units ≡ Some us → NoneUnscheduled (stage.runs ++ runs) r.replies.items
      → (left : List Stored) × ((after.units ≡ Some left) × HasServedMirror s devices us left r.state.pool r.replies.items r.state.marks.items repaired lost)
  pub faults : (us : List Stored) → begun.outside.units ≡ Some us → All NamesFaults r.replies.items
