use Rattle.block_path.specs.Acts.{act, conflict, tell}
use Rattle.block_path.proofs.Acts.{commutes}
use Rattle.block_path.proofs.Change.{final}
use Rattle.block_path.proofs.laws.what_was_done_is_final.Goals as goal

pub returns : goal.returns
returns g c = λ acts opening now done h. final act tell conflict commutes acts opening now done h
