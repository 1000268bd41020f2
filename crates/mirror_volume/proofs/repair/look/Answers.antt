use Rattle.std.proofs.Common.{ap, length, rules, sym, ◌∙◌}
use Rattle.mirror_volume.proofs.Helds.{delivered-long}
use Rattle.mirror_volume.proofs.Running.{none-run}
use Rattle.mirror_volume.proofs.repair.look.Goals as goal

pub returns-in_err-vec-clause-ran : goal.returns-in_err-vec-clause-ran
returns-in_err-vec-clause-ran g c = none-run _ (search rules)

pub returns-in_err-vec-2-clause-ran : goal.returns-in_err-vec-2-clause-ran
returns-in_err-vec-2-clause-ran g c = none-run _ (search rules)

pub returns-in_err-vec-3-clause-ran : goal.returns-in_err-vec-3-clause-ran
returns-in_err-vec-3-clause-ran g c = none-run _ (search rules)

pub returns-clause-held : goal.returns-clause-held
returns-clause-held g c =
    let seen = c.look_at_parts.ensures.seen in
    record {
      good = ap length c.in_ok-good.ensures ∙ delivered-long c.args.wanted.now c.deref.result.now (ap length c.deref.ensures.value ∙ seen.found ∙ sym c.requires.wanted) ∙ c.requires.wanted;
      bytes = seen.bytes;
      tuples = seen.tuples;
    }
