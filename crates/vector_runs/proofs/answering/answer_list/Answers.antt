use Rattle.std.proofs.Common.{inr, sym, ◌∙◌}
use Rattle.std.proofs.lemmas.Result.{err_from_is_err_and}
use Rattle.vector_runs.proofs.Opening.{ready_by, unopened}
use Rattle.vector_runs.proofs.answering.answer_list.Goals as goal

pub returns-in_err-open_image : goal.returns-in_err-open_image
returns-in_err-open_image g c =
    let p = err_from_is_err_and c.from_residual.result c.from_residual.ensures.1 in
    rw (p.1, p.2) (unopened c.in_err-open_image.field-0.0 c.args.name.now c.args.lines.now _ _ c.in_err-open_image.ensures.opened c.open_image.ensures.kept c.open_image.ensures.opening)

pub returns-in-Some : goal.returns-in-Some
returns-in-Some g c = (
  ready_by c.args.name.now _ (g.R.Rig.state c.open_image.new.rig) _ _ c.in_ok-open_image.ensures.opened c.in_ok-open_image.ensures.devices c.open_image.ensures.kept c.arm.ensures (c.from_vec.ensures ∙ c.new.ensures.items) (g.met.R.Rig.laid c.arm.new.self),
  sym c.out_of_range.ensures ∙ c.in-Some.is,
)

pub returns : goal.returns
returns g c = record {
  between = g.R.Rig.state c.arm.new.self;
  ready = ready_by c.args.name.now _ (g.R.Rig.state c.open_image.new.rig) _ _ c.in_ok-open_image.ensures.opened c.in_ok-open_image.ensures.devices c.open_image.ensures.kept c.arm.ensures (c.from_vec.ensures ∙ c.new.ensures.items) (g.met.R.Rig.laid c.arm.new.self);
  inside = sym c.out_of_range.ensures ∙ c.in-None.is;
  done = c.in_ok-do_list.ensures;
}

pub returns-in_err-do_list : goal.returns-in_err-do_list
returns-in_err-do_list g c =
    let p = err_from_is_err_and c.from_residual-in_err-do_list.result c.from_residual-in_err-do_list.ensures.1 in
    rw (p.1, p.2) (inr (record {
      between = g.R.Rig.state c.arm.new.self;
      ready = ready_by c.args.name.now _ (g.R.Rig.state c.open_image.new.rig) _ _ c.in_ok-open_image.ensures.opened c.in_ok-open_image.ensures.devices c.open_image.ensures.kept c.arm.ensures (c.from_vec.ensures ∙ c.new.ensures.items) (g.met.R.Rig.laid c.arm.new.self);
      inside = sym c.out_of_range.ensures ∙ c.in-None.is;
      done = c.in_err-do_list.ensures;
    }))
