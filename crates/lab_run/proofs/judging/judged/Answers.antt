use Rattle.std.proofs.Common.{List, ℕ, Err, refl, sym, ap, subst}
use Rattle.std.proofs.lemmas.Result.{err_from_is_err_and}
use Rattle.dix_base.specs.Reading.{IsWhole}
use Rattle.lab_run.specs.Texts.{no_memory}
use Rattle.lab_run.proofs.Judges.{said_over, said_whole, spared, spared_over, spared_whole, unread}
use Rattle.lab_run.proofs.judging.judged.Goals as goal

pub returns-in_ok-said_of-in-Ok : goal.returns-in_ok-said_of-in-Ok
returns-in_ok-said_of-in-Ok g c =
    let whole = subst (λ (x : List ℕ). IsWhole x (g.S.Source.left c.args.input.now) (g.S.Source.left c.read_all.new.source)) (sym c.deref.ensures.value) c.in-Ok.ensures.whole in
    said_whole _ c.deref.result.now _ _ _ _ c.in-Ok.ensures.count whole c.in_ok-said_of-in-Ok.ensures

pub returns-in_err-said_of-in-Ok : goal.returns-in_err-said_of-in-Ok
returns-in_err-said_of-in-Ok g c =
    let whole = subst (λ (x : List ℕ). IsWhole x (g.S.Source.left c.args.input.now) (g.S.Source.left c.read_all.new.source)) (sym c.deref.ensures.value) c.in-Ok.ensures.whole in
    let p = err_from_is_err_and c.from_residual.result c.from_residual.ensures.1 in
    rw (p.1, p.2) (spared_whole no_memory c.deref.result.now _ _ _ _ c.in-Ok.ensures.count refl whole)

pub returns-in_ok-said_of_long-in-Err-TooMany : goal.returns-in_ok-said_of_long-in-Err-TooMany
returns-in_ok-said_of_long-in-Err-TooMany g c = said_over _ _ _ _ _ c.in-Err-TooMany.ensures.count (c.in-Err-TooMany.ensures.over (ap Err c.in-Err-TooMany.field-0-is)) c.in_ok-said_of_long-in-Err-TooMany.ensures

pub returns-in_err-said_of_long-in-Err-TooMany : goal.returns-in_err-said_of_long-in-Err-TooMany
returns-in_err-said_of_long-in-Err-TooMany g c =
    let p = err_from_is_err_and c.from_residual-in_err-said_of_long-in-Err-TooMany.result c.from_residual-in_err-said_of_long-in-Err-TooMany.ensures.1 in
    rw (p.1, p.2) (spared_over no_memory _ _ _ _ c.in-Err-TooMany.ensures.count refl (c.in-Err-TooMany.ensures.over (ap Err c.in-Err-TooMany.field-0-is)))

pub returns-in-Err-Failed : goal.returns-in-Err-Failed
returns-in-Err-Failed g c = unread _ _ _ _ c.in-Err-Failed.ensures.count (c.in-Err-Failed.ensures.failed (ap Err c.in-Err-Failed.field-0-is)) (c.in-Err-Failed.ensures.before (ap Err c.in-Err-Failed.field-0-is))

pub returns-in-Err-Memory : goal.returns-in-Err-Memory
returns-in-Err-Memory g c = spared _ _ _ _ c.in-Err-Memory.ensures.count c.in-Err-Memory.ensures.most
