-- The queues of a plan.
use Rattle.std.proofs.Common.{◌<◌, ◌≤◌, ◌+◌, ℕ, Bool, List, subst}
use Rattle.bio_core.specs.declared.request.Io.{Io}
use Rattle.merge_queue.specs.declared.limits.Limits.{Limits}
use Rattle.stack_ops.specs.declared.op.Op.{Op}
use Rattle.stack_laws.specs.Plan.{PlannedOp}
use Rattle.stack_laws.specs.Sound.{OnDevices}
use Rattle.volume_table.specs.Places.{place_in}
use Rattle.volume_table.specs.Tables.{Table}
use Rattle.stack_core.specs.OnRecord.{HasQueues}
use Rattle.stack_walk_laws.specs.Sheets.{io_at, plan_of}
use Rattle.stack_walk_laws.proofs.Facts.{request-at}

pub has-queues : (ops : List Op) (shifted : List Bool) (ios : List Io) (table : Table) (limits : Limits) (devices : ℕ) → OnDevices (plan_of ops shifted ios table limits devices) →
    ((n : ℕ) → ((i k : ℕ) → k < (io_at ios i).count → (place_in table.entries ((io_at ios i).first + k)).0 < n) → devices ≤ n) → HasQueues (plan_of ops shifted ios table limits devices)
has-queues ops shifted ios table limits devices on tight = record {
  on = on;
  least = λ n h. tight n (λ i k l. subst (λ (r : PlannedOp). k < r.count → (place_in table.entries (r.first + k)).0 < n) (request-at ios i) (h i k) l);
}
