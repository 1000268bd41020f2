use Rattle.std.proofs.Common.{◌≡◌, inl, inr, refl, sym, subst, ◌∙◌, arith}
use Rattle.std.proofs.lemmas.Result.{err_from_is_err_and}
use Rattle.script_text.specs.declared.script.Script.{Script}
use Rattle.run_command.specs.Working.{IsSound}
use Rattle.rig_api.specs.Image.{formatted}
use Rattle.flip_sweep.specs.Comes.{came_to, seen_of}
use Rattle.flip_sweep.specs.Swept.{CauseNoRun}
use Rattle.flip_sweep.proofs.Coming.{held}
use Rattle.flip_sweep.proofs.Sounding.{no_faults}
use Rattle.flip_sweep.proofs.sweep.begun.Goals as goal

pub returns-in-Some-clause-cause : goal.returns-in-Some-clause-cause
returns-in-Some-clause-cause c = inl (c.in-Some.fault, sym c.own_fault.ensures ∙ c.in-Some.is, refl)

pub returns-in_err-fresh-clause-cause : goal.returns-in_err-fresh-clause-cause
returns-in_err-fresh-clause-cause c =
    let p = err_from_is_err_and c.from_residual.result c.from_residual.ensures.1 in
    rw (p.1, p.2) (inr (sym c.own_fault.ensures ∙ c.in_default.is, tt))

pub copy_of-requires : goal.copy_of-requires
copy_of-requires c = no_faults c.args.script.now c.requires.sound (sym c.own_fault.ensures ∙ c.in_default.is)

pub returns-in_err-copy-clause-cause : goal.returns-in_err-copy-clause-cause
returns-in_err-copy-clause-cause c =
    let p = err_from_is_err_and c.from_residual-in_err-copy.result c.from_residual-in_err-copy.ensures.1 in
    rw (p.1, p.2) (inr (sym c.own_fault.ensures ∙ c.in_default.is, tt))

pub run_over-requires : goal.run_over-requires
run_over-requires c = subst IsSound (sym c.in_ok-copy.ensures) c.requires.sound

pub returns-clause-base : goal.returns-clause-base
returns-clause-base c =
    let units = c.args.units.now in
    let image : c.bytes.result.now ≡ formatted units = held _ _ _ _ c.bytes.ensures c.store.ensures.image c.in_ok-fresh.ensures in
    record {
      layout = c.requires.layout;
      sound = c.requires.sound;
      own = sym c.own_fault.ensures ∙ c.in_default.is;
      byte = c.requires.byte;
      byte_fits = omega arith;
      fresh = c.in_ok-fresh.ensures;
      plain = subst (λ (s : Script). seen_of c.in_ok-plain.plain s.pages ≡ came_to s units) c.in_ok-copy.ensures (c.in_ok-plain.ensures.comes units c.requires.layout image);
      long = c.in_ok-plain.ensures.long units c.requires.layout image;
    }

pub returns-in_err-plain-clause-cause : goal.returns-in_err-plain-clause-cause
returns-in_err-plain-clause-cause c =
    let p = err_from_is_err_and c.from_residual-in_err-plain.result c.from_residual-in_err-plain.ensures.1 in
    let units = c.args.units.now in
    let image : c.bytes.result.now ≡ formatted units = held _ _ _ _ c.bytes.ensures c.store.ensures.image c.in_ok-fresh.ensures in
    rw (p.1, p.2) (inr (sym c.own_fault.ensures ∙ c.in_default.is, subst (λ (s : Script). CauseNoRun c.in_err-plain.field-0.0 s (formatted units)) c.in_ok-copy.ensures (c.in_err-plain.ensures.cause units c.requires.layout image)))
