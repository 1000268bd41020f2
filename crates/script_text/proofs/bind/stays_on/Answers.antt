use Rattle.std.proofs.Common.{sym, subst, ◌∙◌, ◌<◌}
use Rattle.script_text.proofs.Staying.{stay_more}
use Rattle.script_text.proofs.bind.stays_on.Goals as goal

pub loop-i-preserved : goal.loop-i-preserved
loop-i-preserved c =
    stay_more c.args.against.table.now c.args.against.devices.now _ c.loop-i.at c.args.n c.loop-i._i _ c.loop-i-test.true (subst (λ l. c.loop-i.at < l) c.len.ensures c.if-at-len.false) (sym c.block_stays.ensures ∙ c.if-not-block_stays.false) c.loop-i.invariant
