-- What a rig that tells its blocks puts on record of a look is its unit's answer, whatever faults are armed and whatever its store does.
use Rattle.std.proofs.Common.{◌≡◌, ℕ, List, [], ◌∷◌, Some, None, refl, sym, ap, ◌∙◌}
use Rattle.std.specs.Prelude.{replicate}
use Rattle.rig_api.specs.Passed.{joined, Answer, Stored}
use Rattle.rig_api.specs.Log.{entry_of, moved_of}
use Rattle.rig_api.specs.State.{Exchanged, RigState, Stays}
use Rattle.rig_api.specs.Telling.{answer_of, at_front, spec_at, unit_at, with_blocks}
use Rattle.rig_api.specs.declared.rig.Outcome.{Outcome}
use Rattle.record_laws.specs.Answered.{Answers, answer_with}
use Rattle.record_laws.proofs.Going.{answers_then}
use Rattle.rig_discovery.specs.Discovery.{look}
use Rattle.rig_discovery.proofs.Telling.{answered}

pub look_answers : (us : List Stored) (old new : RigState) (dev : ℕ) (o : Outcome) (into : List ℕ) → old.units ≡ Some us → Exchanged old new dev look [] [] (replicate 32 0) into o → Answers us old new
look_answers us old new dev o into units x =
    let k = (spec_at old.standing dev).size in
    let e = entry_of k dev look [] o [] into in
    let stop = (x.stopped us units).0 in
    let a = (x.stopped us units).2 in
    let told = answer_of us old.armed dev look [] [] 32 stop in
    let mine = answer_with old.standing us [] [] e in
    let same : told ≡ mine = answered (unit_at us dev) old.armed stop ∙ sym (answered (unit_at us dev) [] None) in
    record {
      records = e ∷ [];
      log = x.recorded;
      left = with_blocks us dev mine.blocks;
      answered = (
        record {
          labels = [];
          out = [];
          frames = refl;
          outcome = a.outcome ∙ ap (λ (y : Answer). record { done = y.done; sense = y.sense }) same;
          moved = ap (moved_of k look o []) (a.into ∙ ap (λ (y : Answer). at_front (joined y.sent) (replicate 32 0)) same);
        },
        refl,
      );
      units = a.units ∙ ap (λ (y : Answer). Some (with_blocks us dev y.blocks)) same;
    }

-- one look more
pub answers_more : (first then last : RigState) → Stays first then → ((us : List Stored) → first.units ≡ Some us → Answers us first then) → ((us : List Stored) → then.units ≡ Some us → Answers us then last) → (us : List Stored) → first.units ≡ Some us → Answers us first last
answers_more first then last stays so_far more us e = let x = so_far us e in answers_then us first then last stays.standing x (more x.left x.units)
