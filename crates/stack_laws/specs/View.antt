-- What is seen of a stack between two steps.
use Rattle.std.specs.Prelude.{ℕ, Bool, true, false, ◌&&◌, List, [], ◌∷◌, get_or, replicate, map}
use Rattle.merge_queue.specs.Passed.{Fate}
use Rattle.range_gate.specs.declared.phase.Phase.{Phase}
use Rattle.range_gate.specs.declared.phase.Phase.TheVariants.{Waiting, Admitted, Ended}
use Rattle.stack_laws.specs.Plan.{Plan, PlannedOp}
use Rattle.merge_queue.specs.Groups.{Group}

-- of an op: how many of its blocks are cut, and for each block whether it is settled
pub record OpView : Type 0 where
  pub phase : Phase
  pub cut : ℕ
  pub settled : List Bool

pub record Command : Type 0 where
  pub dev : ℕ
  pub bios : Group
  pub fates : List Fate
  pub completed : Bool

pub record View : Type 0 where
  pub ops : List OpView
  pub queues : List (List Group)
  pub commands : List Command
  pub steps : ℕ

abbrev pub waiting : PlannedOp → OpView
waiting r = record { phase = Waiting; cut = 0; settled = replicate r.count false }

abbrev pub start : Plan → View
start p = record { ops = map waiting p.requests; queues = replicate p.devices []; commands = []; steps = 0 }

abbrev pub is_admitted : Phase → Bool
is_admitted Waiting = false
is_admitted Admitted = true
is_admitted Ended = false

abbrev pub no_op : OpView
no_op = record { phase = Ended; cut = 0; settled = [] }

abbrev pub no_command : Command
no_command = record { dev = 0; bios = []; fates = []; completed = true }

abbrev pub op_at : View → ℕ → OpView
op_at v i = get_or v.ops i no_op

abbrev pub queue_at : View → ℕ → List Group
queue_at v d = get_or v.queues d []

abbrev pub group_at : View → ℕ → ℕ → Group
group_at v d i = get_or (queue_at v d) i []

abbrev pub command_at : View → ℕ → Command
command_at v j = get_or v.commands j no_command

abbrev pub all_true : List Bool → Bool
all_true [] = true
all_true (b ∷ bs) = b && all_true bs
