use Rattle.std.proofs.Common.{◌≡◌, ◌<◌, [], ◌∷◌, ◌++◌, length, ap, ◌∙◌, arith, length-append}
use Rattle.std.specs.Prelude.{is_some}
use Rattle.rig_api.specs.Telling.{specs_of}
use Rattle.rig_api.proofs.State.{stays-on}
use Rattle.rig_discovery.proofs.Answering.{answers_more}
use Rattle.rig_discovery.proofs.Steps.{ends_more, infos_more, one_more, room_more, spent_more, told_last}
use Rattle.rig_discovery.proofs.Telling.{enough}
use Rattle.rig_discovery.proofs.discovery.discover.Goals as goal

pub loop-dev-preserved : goal.loop-dev-preserved
loop-dev-preserved g c =
    let pushed : c.try_push.new.self.items ≡ c.loop-dev.found.items ++ (c.in-Some.info ∷ []) = c.in-Ok.ensures.ok in
    let asked = rw c.loop-dev.invariant.stays.standing at c.ask.ensures.asked in
    let within : c.loop-dev.dev < (g.R.Rig.state c.args.rig.now).standing.devices = omega (arith, c.loop-dev-test.true, c.devices-dev-end.ensures) in
    let last : c.loop-dev.dev < length (specs_of (g.R.Rig.state c.args.rig.now).standing) = enough _ _ c.loop-dev.dev (g.met.R.Rig.ready c.args.rig.now) within in
    record {
      so_far = rw pushed (one_more _ c.loop-dev.dev _ c.in-Some.info _ _ _ c.ask.result c.loop-dev.invariant.so_far asked c.in-Some.is);
      few = ap length pushed ∙ length-append c.loop-dev.found.items (c.in-Some.info ∷ []) ∙ omega (arith, c.loop-dev.invariant.few);
      told = λ t. rw pushed (infos_more (specs_of (g.R.Rig.state c.args.rig.now).standing) c.loop-dev.dev c.loop-dev.found.items c.in-Some.info last (c.loop-dev.invariant.told t)
          (told_last _ _ c.loop-dev.dev c.ask.result c.in-Some.info c.loop-dev.invariant.stays.standing c.in-Some.is (c.ask.ensures.told (ap is_some c.loop-dev.invariant.units ∙ t))));
      ends = rw pushed (ends_more c.loop-dev.found.items c.in-Some.info c.loop-dev.invariant.ends c.in-Some.ensures.end);
      answered = answers_more _ _ _ c.loop-dev.invariant.stays c.loop-dev.invariant.answered c.ask.ensures.answered;
      units = c.ask.ensures.units ∙ c.loop-dev.invariant.units;
      stays = stays-on c.loop-dev.invariant.stays c.ask.ensures.stays;
      room = room_more _ _ c.loop-dev.dev _ _ within c.loop-dev.invariant.room c.ask.ensures.spent;
      spent = spent_more c.loop-dev.dev _ _ _ c.loop-dev.invariant.spent c.ask.ensures.spent;
    }
