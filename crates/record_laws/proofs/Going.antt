-- Answers one after another.
use Rattle.std.proofs.Common.{◌≡◌, ◌≤◌, List, [], ◌∷◌, ◌++◌, Some, refl, sym, ap, subst, ◌∙◌, arith, append-nil, append_assoc}
use Rattle.rig_api.specs.Passed.{Stored}
use Rattle.rig_api.specs.Log.{LogEntry, Room}
use Rattle.rig_api.specs.State.{RigState}
use Rattle.rig_api.specs.Telling.{Standing, with_blocks}
use Rattle.record_laws.specs.Answered.{Answers, AreAnswersTo, PutsAnswers, answer_with}

pub answers_join : (s : Standing) (us between left : List Stored) (es fs : List LogEntry) → AreAnswersTo s us es between → AreAnswersTo s between fs left → AreAnswersTo s us (es ++ fs) left
answers_join s us between left [] fs h k = subst (λ ws. AreAnswersTo s ws fs left) h k
answers_join s us between left (e ∷ es) fs (a, h) k = (a, answers_join s (with_blocks us e.what.dev (answer_with s us a.labels a.out e).blocks) between left es fs h k)

-- nothing was put on record, and the units are as before
pub answers_nothing : (us : List Stored) (old new : RigState) → new.log ≡ old.log → new.units ≡ Some us → Answers us old new
answers_nothing us old new l u = record { records = []; log = l ∙ sym (append-nil old.log); left = us; answered = refl; units = u }

pub answers_then : (us : List Stored) (a b c : RigState) → b.standing ≡ a.standing → (x : Answers us a b) → Answers x.left b c → Answers us a c
answers_then us a b c same x y = record {
  records = x.records ++ y.records;
  log = y.log ∙ (ap (λ l. l ++ y.records) x.log ∙ append_assoc a.log x.records y.records);
  left = y.left;
  answered = answers_join a.standing us x.left y.left x.records y.records x.answered (subst (λ s. AreAnswersTo s x.left y.records y.left) same y.answered);
  units = y.units;
}

-- ---- the same while no fault is armed and none is counted

pub puts_nothing : (old new : RigState) → new.log ≡ old.log → new.standing ≡ old.standing → new.armed ≡ old.armed → new.units ≡ old.units → PutsAnswers old new
puts_nothing old new l s a u us told armed calm = (answers_nothing us old new l (u ∙ told), s, a)

pub puts_then : (a b c : RigState) → a.faults ≤ b.faults → b.faults ≤ c.faults → PutsAnswers a b → PutsAnswers b c → PutsAnswers a c
puts_then a b c l k x y us told armed calm =
    let n = calm.0 in
    let z = calm.1 in
    let one = x us told armed (omega (arith, l, k, n, z), omega (arith, l, k, n, z)) in
    let more = y one.0.left one.0.units (one.2 ∙ armed) (omega (arith, l, k, n, z), omega (arith, l, k, n, z)) in
    (answers_then us a b c one.1 one.0 more.0, more.1 ∙ one.1, more.2 ∙ one.2)

-- ---- spare room has no part in it

pub answers_from : (us : List Stored) (a b new : RigState) (spare : Room) → a ≡ record b { room = spare } → Answers us a new → Answers us b new
answers_from us a b new spare same x = let y = subst (λ (s : RigState). Answers us s new) same x in record { records = y.records; log = y.log; left = y.left; answered = y.answered; units = y.units }

pub answers_room : (us : List Stored) (old new : RigState) (spare : Room) → Answers us old new → Answers us old (record new { room = spare })
answers_room us old new spare x = record { records = x.records; log = x.log; left = x.left; answered = x.answered; units = x.units }
