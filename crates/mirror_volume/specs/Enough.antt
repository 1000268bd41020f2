-- When one good leg was enough: what is said of a script that was run on a mirror to its end, and repaired, over a rig that tells its blocks.
use Rattle.std.specs.Prelude.{ℕ, ◌≡◌, ◌+◌, ◌<◌, Bool, List, ◌∷◌, ◌++◌, length, get_or}
use Rattle.page_pool.specs.Cells.{flat, gather}
use Rattle.stack_ops.specs.declared.reply.Reply.{Reply}
use Rattle.stack_ops.specs.declared.reply.Reply.TheVariants.{Silent, Whole}
use Rattle.walk_laws.specs.Steps.{body_of}
use Rattle.mirror_volume.specs.OnOps.{Sides}
use Rattle.page_pool.specs.declared.segs.Seg.{Seg}
use Rattle.rig_api.specs.Target.{Stored}
use Rattle.dix_adapter.specs.Ways.{blocks_told, shapes_of}
use Rattle.block_path.specs.Acts.{State}
use Rattle.stack_ops.specs.declared.op.Op.{Op}
use Rattle.stack_ops.specs.declared.op.Op.TheVariants.{Fetch}
use Rattle.volume_table.specs.declared.device.DeviceInfo.{DeviceInfo}
use Rattle.walk_laws.specs.Past.{steps_from}
use Rattle.script_text.specs.declared.script.Script.{Script}
use Rattle.script_stack.specs.Followed.{opening_of}
use Rattle.mirror_laws.specs.Mirror.{count_of}
use Rattle.mirror_laws.specs.OneGood.{HoldsProper, ReadsLast, last_of, on_leg}
use Rattle.mirror_volume.specs.Standing.{half_of, mirror_setting}

-- the cells with which a mirror begins over these units
abbrev pub opening_over : Script → List Stored → State
opening_over s us = opening_of s (shapes_of us) (blocks_told us)

-- Each read is whole, and each of its blocks has the data that were last accepted.
abbrev pub AllReadLast : Script → List DeviceInfo → List Stored → Type 0
AllReadLast s devices us = (before after : List Op) (v n : ℕ) (body : List Seg) → s.ops ≡ before ++ (Fetch v n body ∷ after) → ReadsLast (mirror_setting s devices us) (half_of s devices) s.ops before v n body (opening_over s us)

-- Both legs hold what was last accepted of each block, under a proper tuple.
abbrev pub BothHoldLast : Script → List DeviceInfo → List Stored → (left : List Stored) → Type 0
BothHoldLast s devices us left = (u : ℕ) → u < half_of s devices → (leg : Bool)
    → HoldsProper (mirror_setting s devices us) (on_leg leg u (half_of s devices + u)) (last_of (mirror_setting s devices us) (half_of s devices) (count_of s.ops) (steps_from (mirror_setting s devices us) 1 s.ops) (opening_over s us) u) (blocks_told left)

-- Reads got the last accepted write, and after the repair no block is lost and both legs hold it.
pub record WasEnough (s : Script) (devices : List DeviceInfo) (us left : List Stored) (lost : ℕ) : Type 0 where
  pub reads : AllReadLast s devices us
  pub equal : BothHoldLast s devices us left
  pub lost_none : lost ≡ 0

-- The read that follows these ops was the last that was done: it is whole, and its pages have the data that were last accepted.
pub record HasReadLast (s : Script) (devices : List DeviceInfo) (us : List Stored) (before : List Op) (v n : ℕ) (body : List Seg) (sides : Sides) (replies : List Reply) : Type 0 where
  pub reply : get_or replies (length before) Silent ≡ Whole
  pub data_is : (k : ℕ) → k < n → gather 0 (body_of s.block body k) (flat sides.pool)
      ≡ (last_of (mirror_setting s devices us) (half_of s devices) (count_of s.ops) (steps_from (mirror_setting s devices us) 1 before) (opening_over s us) (v + k)).body
