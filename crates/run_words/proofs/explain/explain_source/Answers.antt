use Rattle.std.proofs.Common.{List, ℕ, Err, refl, sym, ap, subst}
use Rattle.run_command.specs.Verdict.{Facts}
use Rattle.dix_base.specs.Reading.{IsWhole}
use Rattle.run_words.proofs.Marking.{all_complete, by_long, by_text}
use Rattle.run_words.proofs.explain.explain_source.Goals as goal

pub returns-in-Ok-clause-verdict : goal.returns-in-Ok-clause-verdict
returns-in-Ok-clause-verdict g c =
    let whole = subst (λ (x : List ℕ). IsWhole x (g.S.Source.left c.args.source.now) (g.S.Source.left c.read_all.new.source)) (sym c.deref.ensures.value) c.in-Ok.ensures.whole in
    by_text c.explain_text.result c.deref.result.now _ whole c.in-Ok.ensures.calm c.explain_text.ensures.verdict

pub returns-in-Ok-clause-complete : goal.returns-in-Ok-clause-complete
returns-in-Ok-clause-complete g c =
    let whole = subst (λ (x : List ℕ). IsWhole x (g.S.Source.left c.args.source.now) (g.S.Source.left c.read_all.new.source)) (sym c.deref.ensures.value) c.in-Ok.ensures.whole in
    all_complete c.explain_text.result _ (by_text c.explain_text.result c.deref.result.now _ whole c.in-Ok.ensures.calm c.explain_text.ensures.verdict)

pub returns-in-Err-TooMany-clause-verdict : goal.returns-in-Err-TooMany-clause-verdict
returns-in-Err-TooMany-clause-verdict g c = by_long c.marked_long.result _ (c.in-Err-TooMany.ensures.over (ap Err c.in-Err-TooMany.field-0-is)) refl c.marked_long.ensures

pub returns-in-Err-TooMany-clause-complete : goal.returns-in-Err-TooMany-clause-complete
returns-in-Err-TooMany-clause-complete g c =
    let before = g.R.Rig.state c.args.rig.now in
    let f : Facts = record {
      name = c.args.image.now;
      left = g.S.Source.left c.args.source.now;
      left_after = g.S.Source.left c.read_all.new.source;
      reads = g.S.Source.faults c.args.source.now;
      reads_after = g.S.Source.faults c.read_all.new.source;
      rig = before;
      rig_after = before;
    } in
    all_complete (Err c.marked_long.result) f (by_long c.marked_long.result f (c.in-Err-TooMany.ensures.over (ap Err c.in-Err-TooMany.field-0-is)) refl c.marked_long.ensures)
