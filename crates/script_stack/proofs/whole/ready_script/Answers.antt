use Rattle.std.proofs.Common.{◌≡◌, ap, map, sym, ◌∙◌}
use Rattle.std.specs.Prelude.{is_some}
use Rattle.rig_api.specs.State.{RigState}
use Rattle.rig_api.specs.Telling.{Standing, specs_of}
use Rattle.script_run_laws.specs.Passed.{info_of}
use Rattle.script_stack.proofs.whole.ready_script.Goals as goal

pub returns-clause-stands : goal.returns-clause-stands
returns-clause-stands g c =
    let rig = g.R.Rig.state c.arm.new.self in
    let st : rig.standing ≡ (g.R.Rig.state c.args.rig.now).standing = ap (λ (s : RigState). s.standing) c.arm.ensures ∙ ap (λ (s : RigState). s.standing) c.reserve.ensures.keeps in
    let im : rig.image ≡ (g.R.Rig.state c.args.rig.now).image = ap (λ (s : RigState). s.image) c.arm.ensures ∙ ap (λ (s : RigState). s.image) c.reserve.ensures.keeps in
    let room : rig.room ≡ (g.R.Rig.state c.reserve.new.self).room = ap (λ (s : RigState). s.room) c.arm.ensures in
    record {
      stack = c.in_ok-run.ensures.begins.stack;
      reaches = c.in_ok-run.ensures.reaches (is_some rig.image) rig.standing
          (ap (λ (s : Standing). s.devices) st ∙ sym c.requires.count)
          (λ t. c.requires.told (sym (ap is_some im) ∙ t) ∙ ap (λ (s : Standing). map info_of (specs_of s)) (sym st));
      spare = rw (st, room) (c.in_ok-run.ensures.spare _ _ (rw (← c.blocks-blocks.ensures.all) c.in_ok-reserve.ensures.room));
    }
