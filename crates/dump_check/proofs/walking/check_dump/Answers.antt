use Rattle.dix_base.proofs.Counts.{rose_later}
use Rattle.dump_check.proofs.Endings.{some_bytes, unflushed}
use Rattle.dump_check.proofs.walking.check_dump.Goals as goal

pub returns-in-Err-clause-checked : goal.returns-in-Err-clause-checked
returns-in-Err-clause-checked g c =
    (rose_later _ _ _ c.check_all-ended.ensures.sinks c.in-Err.ensures.cause, unflushed c.check_all-ended.result c.args.dump _ _ _ _ _ _ _ _ _ (some_bytes c.args.dump.form c.requires.fit) c.check_all-ended.ensures.ends c.in-Err.ensures.same)
