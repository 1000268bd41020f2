-- Requests on the legs of a mirror, run one after another: what a call asks before it runs some, and what it leaves.
use Rattle.std.specs.Prelude.{ℕ, ◌≡◌, ◌+◌, ◌≤◌, false, List, [], ◌∷◌, ◌++◌, is_some, length}
use Rattle.rig_api.specs.State.{RigState}
use Rattle.stack_ops.specs.declared.reply.Reply.{Reply}
use Rattle.script_text.specs.declared.script.Script.{Script}
use Rattle.script_stack.specs.Causes.{table_of}
use Rattle.mirror_volume.specs.LegRuns.{AllOwn, GoOn, LegRun, RanLegs}
use Rattle.mirror_volume.specs.OnOps.{DidOp}
use Rattle.mirror_volume.specs.Standing.{HasLegDevices, KeepsToWalk, op_at}
use Rattle.mirror_volume.specs.declared.legs.Plan.{Plan}
use Rattle.mirror_volume.specs.declared.mirror.Mirror.{Mirror}
use Rattle.mirror_volume.specs.Plans.{IsMirror, IsPlan, sides_of}

-- The next request can be run: the plan is a mirror's, the rig has its devices, and no more entries of its schedule are used than there are.
pub record CanRun (p : Plan) (used : ℕ) (outside : RigState) : Type 0 where
  pub plan : IsPlan p
  pub rig : HasLegDevices p.devices.items (is_some outside.image) outside.standing
  pub few : used ≤ length p.script.schedule

-- Some were run: each of a script of which `Own` holds, and of all of them `Came`. They go on in the schedule, and the rig tells its image or not as before.
pub record HasRunOnLegs (p : Plan) (used used' : ℕ) (before after : RigState) (Own : Script → Type 0) (Came : List LegRun → Type 0) : Type 0 where
  pub runs : List LegRun
  pub ran : RanLegs (table_of p.script p.devices.items) p.devices.items runs before after
  pub goes_on : GoOn p.script.schedule used runs used'
  pub own : AllOwn Own runs
  pub came : Came runs
  pub tells : is_some after.image ≡ is_some before.image

-- The next op can be done, or the repair: the mirror stands between two ops, memory was never wanting, and the rig has its devices.
pub record CanGoOn (r : Mirror) (outside : RigState) : Type 0 where
  pub mirror : IsMirror r
  pub going : r.failed ≡ false
  pub rig : HasLegDevices r.plan.devices.items (is_some outside.image) outside.standing

-- The next op was done to its end by these runs: it replied, and the mirror keeps to its walk.
pub record DidNext (old new : Mirror) (before after : RigState) (runs : List LegRun) : Type 0 where
  pub reply : Reply
  pub replies_are : new.replies.items ≡ old.replies.items ++ (reply ∷ [])
  pub did : DidOp old.plan.script old.plan.half (length old.replies.items + 1) (op_at old.plan.script.ops (length old.replies.items)) (sides_of old) (sides_of new) before after runs reply
  pub keeps : KeepsToWalk old.plan.script old.plan.devices.items (sides_of old) (sides_of new) before after old.replies.items reply runs
