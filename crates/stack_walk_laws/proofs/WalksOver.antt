-- What holds of a script over its rig holds of it over a device of which is told what came of each block.
use Rattle.std.proofs.Common.{ℕ, suc, List, get_or, subst}
use Rattle.block_path.specs.Routes.{told_by}
use Rattle.run_laws.specs.Passed.{Setting, Step, Op}
use Rattle.run_laws.specs.EarlierWrites.{HasLog}
use Rattle.stack_walk_laws.proofs.OverDevice.{all_placed_over, log_over, same_steps, spread_over}
use Rattle.stack_walk_laws.proofs.Switch.{Told, over}
use Rattle.stack_walk_laws.specs.Ground.{Ground}
use Rattle.stack_walk_laws.specs.Spots.{no_step, op_in, step_in}

pub ground_over : (m : Setting) (came : Told) (n logs : ℕ) (ops : List Op) → Ground m n logs ops → Ground (over m came) n logs ops
ground_over m came n logs ops g = record {
  one = g.one;
  placed = all_placed_over m (told_by came) n ops g.placed;
  kinds = g.kinds;
  spread = λ i l z. spread_over m (told_by came) (suc i) (op_in ops i) (g.spread i l z);
  logged = λ i k l z. subst (λ (steps : List Step). HasLog (over m came) logs (get_or steps k no_step)) (same_steps m (told_by came) (suc i) (op_in ops i)) (log_over m (told_by came) logs (step_in m ops i k) (g.logged i k l z));
}
