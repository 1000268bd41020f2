-- What is asked of the plan of a run.
use Rattle.std.specs.Prelude.{◌<◌, ◌≤◌, ◌^◌, ℕ, ◌+◌, length}
use Rattle.stack_laws.specs.Plan.{Plan, request_at}
use Rattle.stack_laws.specs.Formed.{Straight}
use Rattle.stack_laws.specs.Runs.{blocks_of_requests}
use Rattle.stack_laws.specs.Sound.{OnDevices}
use Rattle.bio_core.specs.declared.TheConstants.{MOST_BLOCKS}
use Rattle.stack_steps.specs.declared.TheConstants.{MOST_OPS}

-- The blocks of the requests lie on the devices, straight; there are few of them; no address is the last that there is.
pub record Fine (p : Plan) : Type 0 where
  pub on_devices : OnDevices p
  pub straight : Straight p
  pub few_ops : length p.requests ≤ MOST_OPS
  pub few_blocks : blocks_of_requests p.requests ≤ MOST_BLOCKS
  pub few_devices : p.devices ≤ 8
  pub ends : (i k : ℕ) → k < (request_at p i).count → (p.place ((request_at p i).first + k)).lba + 1 < 2 ^ 64
