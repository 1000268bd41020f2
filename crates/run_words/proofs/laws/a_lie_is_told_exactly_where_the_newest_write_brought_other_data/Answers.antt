use Rattle.run_words.proofs.Judging.{judged_so}
use Rattle.run_words.proofs.laws.a_lie_is_told_exactly_where_the_newest_write_brought_other_data.Goals as goal

pub returns : goal.returns
returns c = λ b moved replies came v i. judged_so b moved replies came v i
