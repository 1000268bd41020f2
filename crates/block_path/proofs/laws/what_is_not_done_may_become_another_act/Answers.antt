use Rattle.block_path.specs.Acts.{act, conflict, tell}
use Rattle.block_path.proofs.Change.{changed}
use Rattle.block_path.proofs.Given.{stand_for}
use Rattle.block_path.proofs.laws.what_is_not_done_may_become_another_act.Goals as goal

pub returns-clause-other : goal.returns-clause-other
returns-clause-other g c = λ acts opening now done i a other e h less k. changed act tell conflict a other acts opening now done i e h less k

pub returns-clause-same : goal.returns-clause-same
returns-clause-same g c = λ acts others opening now done h k. stand_for act tell conflict acts others opening done now h k
