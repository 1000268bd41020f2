-- What one exchange with a unit that is told puts on record is the unit's answer, as it is put again by its vector.
use Rattle.std.proofs.Common.{ℕ, List, [], replicate, Some, None, sym, ap, ◌∙◌}
use Rattle.rig_api.specs.Frames.{joined}
use Rattle.rig_api.specs.Target.{Answer}
use Rattle.rig_api.specs.Log.{moved_of}
use Rattle.rig_api.specs.Telling.{answer_of, at_front, with_blocks}
use Rattle.record_laws.specs.Answered.{room_of}
use Rattle.record_laws.proofs.Exchange.{moved_is, outcome_is, units_are}
use Rattle.rig_api.specs.Telling.{spec_at}
use Rattle.lab_laws.specs.Again.{ExchangeAnswers}

pub exchange_answers : ExchangeAnswers
exchange_answers old new dev cdb labels out before came o us x units armed calm stored size room all =
    let k = (spec_at old.standing dev).size in
    let zeros = replicate (room_of k cdb) 0 in
    let by : (ys : List ℕ) → Answer = λ ys. answer_of us [] dev cdb labels ys (room_of k cdb) None in (
      x.recorded,
      (
        record {
          labels = labels;
          outcome = outcome_is old new dev cdb labels out before came o us x units armed calm stored size room ∙ ap (λ ys. record { done = (by ys).done; sense = (by ys).sense }) (sym all);
          moved = moved_is old new dev cdb labels out before came o us x units armed calm stored size room ∙ ap (λ ys. moved_of k cdb o ys (at_front (joined (by ys).sent) zeros)) (sym all);
        },
        units_are old new dev cdb labels out before came o us x units armed calm stored size room ∙ ap (λ ys. Some (with_blocks us dev (by ys).blocks)) (sym all),
      ),
    )
