-- What a stack is before its first step.
use Rattle.std.specs.Prelude.{◌≡◌, ℕ, ◌<◌, ◌≤◌, Bool, List, length, map, replicate}
use Rattle.bio_core.specs.declared.fate.Fate.TheVariants.{Untouched}
use Rattle.page_pool.specs.Pages.{IsBlank}
use Rattle.block_path.specs.Routes.{host_type}
use Rattle.dix_adapter.specs.Groups.{mode_of}
use Rattle.fault_schedule.specs.declared.fault.FaultLine.{FaultLine}
use Rattle.merge_queue.specs.declared.limits.Limits.{Limits}
use Rattle.volume_table.specs.Places.{place_in, volume_len}
use Rattle.volume_table.specs.Tables.{Table}
use Rattle.stack_ops.specs.declared.op.Op.{Op}
use Rattle.stack_ops.specs.declared.reply.Reply.TheVariants.{Silent}
use Rattle.stack_laws.specs.Runs.{blocks_of_requests}
use Rattle.stack_laws.specs.View.{start}
use Rattle.stack_steps.specs.Does.{Holds}
use Rattle.stack_walk_laws.specs.Requests.{pages_from, requests_from}
use Rattle.stack_walk_laws.specs.Sheets.{request_in}
use Rattle.stack_walk_laws.specs.Shifts.{shifted_by}
use Rattle.stack_core.specs.declared.setup.Setup.{Setup}
use Rattle.stack_core.specs.declared.sheet.Sheet.{Sheet}
use Rattle.stack_core.specs.declared.stack.Stack.{Stack}
use Rattle.stack_core.specs.OnRecord.{HasQueues}
use Rattle.stack_core.specs.Stacks.{plan_in}
use Rattle.stack_core.specs.Walking.{WalksAtFirst, WalksFallingAtFirst, WalksToldAtFirst}

-- The stack is that of these ops, with their requests, as it was set up. No step changes that.
pub record IsSetUp (setup : Setup) (given : List Op) (s : Stack) : Type 0 where
  pub ops : s.sheet.ops ≡ given
  pub ios : s.sheet.ios.items ≡ requests_from setup.mode.dix setup.pages given
  pub shifted : s.sheet.shifted.items ≡ shifted_by setup.faults (length given)
  pub table : s.sheet.table ≡ setup.table
  pub limits : s.sheet.limits ≡ setup.limits
  pub mode : mode_of s.adapter ≡ setup.mode
  pub ty : s.adapter.ty ≡ setup.table.ty
  pub host : s.host ≡ host_type setup.table.ty
  pub faults : s.adapter.tamper ≡ setup.faults

-- The sheet of these ops before the first step: their requests, whether a shift line names each, and no more devices than the volume has, with a queue for each.
pub record IsNewSheet (volume : Table) (dix : Bool) (most : Limits) (pages : ℕ) (faults : List FaultLine) (given : List Op) (s : Sheet) : Type 0 where
  pub ops : s.ops ≡ given
  pub ios : s.ios.items ≡ requests_from dix pages given
  pub shifted : s.shifted.items ≡ shifted_by faults (length given)
  pub table : s.table ≡ volume
  pub limits : s.limits ≡ most
  pub devices : (n : ℕ) → ((v : ℕ) → v < volume_len volume.entries → (place_in volume.entries v).0 < n) → s.devices ≤ n
  pub queues : HasQueues (plan_in s)

-- None of its ops has begun: its machine shows the first view, no fate is known, no op has replied, and all pages are zeros. It needs no more devices than the volume has, with a queue for each.
pub record IsNewStack (setup : Setup) (given : List Op) (s : Stack) : Type 0 where
  pub first : Holds (plan_in s.sheet) s.machine (start (plan_in s.sheet))
  pub devices : (n : ℕ) → ((v : ℕ) → v < volume_len setup.table.entries → (place_in setup.table.entries v).0 < n) → s.sheet.devices ≤ n
  pub queues : HasQueues (plan_in s.sheet)
  pub kept : s.kept.held.items ≡ replicate (blocks_of_requests (map request_in (requests_from setup.mode.dix setup.pages given))) Untouched
  pub replies : s.replies.items ≡ replicate (length given) Silent
  pub pool : IsBlank (pages_from setup.mode.dix setup.pages given) s.pool

-- It follows the walk of its script from a rig's next record on: over any rig, and over one that tells its blocks.
pub record FollowsAtFirst (s : Stack) : Type 0 where
  pub walks : WalksAtFirst s
  pub falling : WalksFallingAtFirst s
  pub told : WalksToldAtFirst s
