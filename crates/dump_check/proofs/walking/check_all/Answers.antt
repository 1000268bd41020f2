use Rattle.std.proofs.Common.{◌∙◌}
use Rattle.dix_base.proofs.Counts.{rose_later}
use Rattle.dump_check.proofs.Endings.{finished, some_block, stopped, unfinished}
use Rattle.dump_check.proofs.walking.check_all.Goals as goal

pub check_pieces-requires-clause-some : goal.check_pieces-requires-clause-some
check_pieces-requires-clause-some g c = some_block c.args.dump.form _ _ c.requires.fit c.stride-each.ensures c.requires.least

pub returns-in-Err-clause-ends : goal.returns-in-Err-clause-ends
returns-in-Err-clause-ends g c = stopped c.in-Err.fault c.args.dump _ _ _ _ _ _ _ _ c.in-Err.ensures.ends

pub returns-in-Ok-write_last-clause-ends : goal.returns-in-Ok-write_last-clause-ends
returns-in-Ok-write_last-clause-ends g c =
    let e = c.in-Ok.ensures.ends in
    let w = c.in-Ok-write_last.ensures in
    (finished c.args.dump c.in-Ok.checked _ _ _ _ _ e.0 w.whole, e.1, w.calm ∙ e.2)

pub returns-in-Err-write_last-clause-ends : goal.returns-in-Err-write_last-clause-ends
returns-in-Err-write_last-clause-ends g c =
    let e = c.in-Ok.ensures.ends in
    let w = c.in-Err-write_last.ensures in
    (rose_later _ _ _ c.in-Ok.ensures.sinks w.cause, unfinished c.args.dump c.in-Ok.checked _ _ _ _ _ e.0 w.part)
