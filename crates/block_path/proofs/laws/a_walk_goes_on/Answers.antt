use Rattle.block_path.specs.Acts.{act, conflict, tell}
use Rattle.block_path.proofs.Acts.{commutes}
use Rattle.block_path.proofs.Serial.{begins, ends, goes_on}
use Rattle.block_path.proofs.Split.{goes_on_between}
use Rattle.block_path.proofs.laws.a_walk_goes_on.Goals as goal

pub returns-clause-begins : goal.returns-clause-begins
returns-clause-begins g c = λ acts opening. begins act tell conflict acts opening

pub returns-clause-goes_on : goal.returns-clause-goes_on
returns-clause-goes_on g c = λ acts opening now done i a h m. goes_on act tell conflict commutes acts opening done now i a h m

pub returns-clause-between : goal.returns-clause-between
returns-clause-between g c = λ before after a ds es opening now l k h. goes_on_between act tell conflict commutes before after a ds es opening now l k h

pub returns-clause-ends : goal.returns-clause-ends
returns-clause-ends g c = λ acts opening now answers l h. ends act tell conflict acts opening answers now l h
