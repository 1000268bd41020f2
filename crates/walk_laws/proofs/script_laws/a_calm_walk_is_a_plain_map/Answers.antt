use Rattle.walk_laws.proofs.CalmRuns.{is_plain}
use Rattle.walk_laws.proofs.script_laws.a_calm_walk_is_a_plain_map.Goals as goal

pub returns-clause-replies : goal.returns-clause-replies
returns-clause-replies c = λ m ops opening run. (is_plain m ops opening run).replies

pub returns-clause-under : goal.returns-clause-under
returns-clause-under c = λ m ops opening run. (is_plain m ops opening run).under
