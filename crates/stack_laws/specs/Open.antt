-- The commands in flight, which are all that a stack has to keep.
use Rattle.std.specs.Prelude.{◌≡◌, ℕ, Bool, true, not, List, length, get_or, set}
use Rattle.std.specs.List.{filter}
use Rattle.stack_laws.specs.Plan.{Plan}
use Rattle.merge_queue.specs.Groups.{without}
use Rattle.stack_laws.specs.View.{View, Command, no_command, command_at}
use Rattle.stack_laws.specs.Steps.{End, Complete, enabled_below}

abbrev pub is_open : Command → Bool
is_open c = not c.completed

abbrev pub in_order : List Command → List Command
in_order cs = filter is_open cs

-- The i-th completion that is enabled is that of the i-th command in flight, and takes just it from them.
pub record Completes (p : Plan) (v : View) (i : ℕ) : Type 0 where
  pub j : ℕ
  pub step : get_or (enabled_below p v Complete (length v.commands)) i (End 0) ≡ Complete j
  pub same : command_at v j ≡ get_or (in_order v.commands) i no_command
  pub left : in_order (set v.commands j (record (command_at v j) { completed = true })) ≡ without i (in_order v.commands)
