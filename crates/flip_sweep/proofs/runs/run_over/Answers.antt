use Rattle.std.proofs.Common.{Some, refl, ap, ◌∙◌}
use Rattle.std.proofs.lemmas.Result.{err_from_is_err_and}
use Rattle.image_rig.specs.Heads.{head_in}
use Rattle.image_rig.specs.Told.{laid_of, ready_of}
use Rattle.rig_api.specs.Image.{formatted}
use Rattle.image_rig.proofs.FreshHead.{right_head}
use Rattle.flip_sweep.proofs.Coming.{no_run, seen}
use Rattle.flip_sweep.proofs.runs.run_over.Goals as goal

pub returns-clause-comes : goal.returns-clause-comes
returns-clause-comes c = λ units h e.
    let r = c.run_script.new.rig in
    (seen c.args.script units (record { run = c.in_ok-run.run'; rig = r }) _ _ _ h
    (record {
      image_is = c.new-rig.ensures.image ∙ ap Some (c.new.ensures.bytes ∙ c.in_ok-bytes.ensures.items ∙ e);
      left_is = refl;
      laid = laid_of _ (head_in r.head) r.store.handed r.store.openings (Some r.store.bytes);
      stands = ready_of _ (head_in r.head) r.store.handed r.store.openings (Some r.store.bytes) r.units.items r.right r.devices r.told refl;
      calm = refl;
    }) c.in_ok-run.ensures.verdict).comes

pub returns-clause-long : goal.returns-clause-long
returns-clause-long c = λ units h e.
    let r = c.run_script.new.rig in
    (seen c.args.script units (record { run = c.in_ok-run.run'; rig = r }) _ _ _ h
    (record {
      image_is = c.new-rig.ensures.image ∙ ap Some (c.new.ensures.bytes ∙ c.in_ok-bytes.ensures.items ∙ e);
      left_is = refl;
      laid = laid_of _ (head_in r.head) r.store.handed r.store.openings (Some r.store.bytes);
      stands = ready_of _ (head_in r.head) r.store.handed r.store.openings (Some r.store.bytes) r.units.items r.right r.devices r.told refl;
      calm = refl;
    }) c.in_ok-run.ensures.verdict).long

pub returns-in_err-run-clause-cause : goal.returns-in_err-run-clause-cause
returns-in_err-run-clause-cause c = λ units h e.
    let r = c.run_script.new.rig in
    let p = err_from_is_err_and c.from_residual-in_err-run.result c.from_residual-in_err-run.ensures.1 in
    rw (p.1, p.2) (no_run c.in_err-run.field-0.0 c.args.script (formatted units) r.store.bytes _ _ _ (right_head units h)
    (record {
      image_is = c.new-rig.ensures.image ∙ ap Some (c.new.ensures.bytes ∙ c.in_ok-bytes.ensures.items ∙ e);
      left_is = refl;
      laid = laid_of _ (head_in r.head) r.store.handed r.store.openings (Some r.store.bytes);
      stands = ready_of _ (head_in r.head) r.store.handed r.store.openings (Some r.store.bytes) r.units.items r.right r.devices r.told refl;
      calm = refl;
    }) c.in_err-run.ensures.verdict)

pub returns-in_err-bytes-clause-cause : goal.returns-in_err-bytes-clause-cause
returns-in_err-bytes-clause-cause c = λ units h e.
    let p = err_from_is_err_and c.from_residual.result c.from_residual.ensures.1 in
    rw (p.1, p.2) tt
