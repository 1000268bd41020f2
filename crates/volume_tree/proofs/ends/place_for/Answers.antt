use Rattle.std.specs.List.{position_or_len}
use Rattle.std.proofs.lemmas.List.Sums.{prefix_len-le-length}
use Rattle.volume_tree.specs.Tracks.{is_from}
use Rattle.volume_tree.proofs.Putting.{none_place, some_place}
use Rattle.volume_tree.proofs.ends.place_for.Goals as goal

pub returns-in-Some-clause-value : goal.returns-in-Some-clause-value
returns-in-Some-clause-value c = some_place _ (position_or_len (is_from c.args.end) c.args.ends.now) c.in-Some.place c.in-Some.ensures

pub returns-in-None-clause-value : goal.returns-in-None-clause-value
returns-in-None-clause-value c = none_place c.args.ends.now (position_or_len (is_from c.args.end) c.args.ends.now) (prefix_len-le-length _ c.args.ends.now) c.in-None.ensures
