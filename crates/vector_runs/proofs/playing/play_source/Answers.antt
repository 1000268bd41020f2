use Rattle.std.proofs.Common.{refl}
use Rattle.std.proofs.lemmas.Result.{err_from_is_err_and}
use Rattle.vector_runs.proofs.Coming.{come_listed, come_ran, come_untaken}
use Rattle.vector_runs.proofs.playing.play_source.Goals as goal

pub returns-in-Lines : goal.returns-in-Lines
returns-in-Lines g c =
    let taken = rw c.in-Lines.is at c.in_ok-wanted.ensures.taken in
    come_listed c.play_list.result _ c.in-Lines.lines.items c.take_wanted.ensures.count taken c.play_list.ensures

pub returns-in-Script : goal.returns-in-Script
returns-in-Script g c =
    let taken = rw c.in-Script.is at c.in_ok-wanted.ensures.taken in
    come_ran c.play_script.result _ c.in-Script.script c.take_wanted.ensures.count taken c.play_script.ensures

pub returns-in_err-wanted : goal.returns-in_err-wanted
returns-in_err-wanted g c =
    let p = err_from_is_err_and c.from_residual.result c.from_residual.ensures.1 in
    rw (p.1, p.2) (come_untaken c.in_err-wanted.field-0.0 _ c.take_wanted.ensures.count c.in_err-wanted.ensures.cause refl)
