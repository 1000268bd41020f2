use Rattle.std.proofs.Common.{refl, sym, ◌∙◌}
use Rattle.std.proofs.lemmas.Result.{err_from_is_err_and}
use Rattle.lab_run.proofs.Checks.{came_checked, handed_on, no_room, unfit_words}
use Rattle.lab_run.proofs.checking.check.Goals as goal

pub returns-in_default-clause-came : goal.returns-in_default-clause-came
returns-in_default-clause-came g c = λ h rig second. unfit_words _ c.args.said h _ _ rig second _ _ (sym c.dump_of.ensures.value ∙ c.in_default.is)

pub returns-in_err-room-clause-came : goal.returns-in_err-room-clause-came
returns-in_err-room-clause-came g c = λ h rig second.
    let p = err_from_is_err_and c.from_residual.result c.from_residual.ensures.1 in
    rw (p.1, p.2) (no_room _ c.args.said c.in-Some.dump h _ _ rig second _ _ _ refl (sym c.dump_of.ensures.value ∙ c.in-Some.is))

pub returns-clause-came : goal.returns-clause-came
returns-clause-came g c = λ h rig second.
    rw c.checked_status.ensures (came_checked _ c.args.said c.in-Some.dump h _ _ _ _ rig second _ _ _ _ c.check_dump.result (sym c.dump_of.ensures.value ∙ c.in-Some.is) c.check_dump.ensures.sources c.check_dump.ensures.checked)

pub returns-clause-handed : goal.returns-clause-handed
returns-clause-handed g c = rw c.checked_status.ensures (handed_on c.check_dump.result _ _ c.check_dump.ensures.handed)
