-- What is on record in another order has the same reads between two writes.
use Rattle.std.proofs.Common.{◌≡◌, ℕ, Bool, true, false, ◌&&◌, eqb, List, [], ◌∷◌, ◌++◌, refl, sym, ap, subst, ◌∙◌}
use Rattle.std.specs.Prelude.{not, Result, Ok, Err}
use Rattle.walk_laws.specs.Passed.{Op, State, act, tell, Sent, Site, plain_tells, Why}
use Rattle.walk_laws.specs.ScriptWalk.{acts_from}
use Rattle.walk_laws.specs.Settings.{Setting}
use Rattle.run_laws.specs.CarriedRun.{IsCarried, reads_at}
use Rattle.run_laws.specs.Records.{Mixed, is_out, put_frame, sents}
use Rattle.run_laws.specs.ToldRun.{IsRecordOfRun}

abbrev takes : Site → (c after : ℕ) → Sent → Bool
takes s c after e = not (is_out e.dir) && (eqb (s.cell e.dev e.lba) c && eqb e.after after)

reads_append : (s : Site) (c after : ℕ) (xs ys : List Sent) → reads_at s c after (xs ++ ys) ≡ reads_at s c after xs ++ reads_at s c after ys
reads_append s c after [] ys = refl
reads_append s c after (x ∷ xs) ys =
    ap (put_frame (takes s c after x) x.came) (reads_append s c after xs ys) ∙ by (takes s c after x) x.came (reads_at s c after xs) (reads_at s c after ys)
  where
    by : (take : Bool) (came : Result (List ℕ) Why) (one other : List (List ℕ)) → put_frame take came (one ++ other) ≡ put_frame take came one ++ other
    by false came one other = refl
    by true (Err why) one other = refl
    by true (Ok frame) one other = refl

mixed_reads : (s : Site) (c after : ℕ) (xs ys : List Sent) → Mixed xs ys → Mixed (reads_at s c after xs) (reads_at s c after ys)
mixed_reads s c after [] ys h = ap (reads_at s c after) h
mixed_reads s c after (x ∷ xs) ys h =
    let before = h.0 in
    let behind = h.1.0 in
    let rest : Mixed (reads_at s c after xs) (reads_at s c after before ++ reads_at s c after behind) =
    subst (Mixed (reads_at s c after xs)) (reads_append s c after before behind) (mixed_reads s c after xs (before ++ behind) h.1.1.1) in
    subst (Mixed (reads_at s c after (x ∷ xs))) (sym (ap (reads_at s c after) h.1.1.0 ∙ reads_append s c after before (x ∷ behind)))
    (by (takes s c after x) x.came (reads_at s c after before) (reads_at s c after behind) rest)
  where
    by : (take : Bool) (came : Result (List ℕ) Why) (before behind : List (List ℕ)) → Mixed (reads_at s c after xs) (before ++ behind) →
        Mixed (put_frame take came (reads_at s c after xs)) (before ++ put_frame take came behind)
    by false came before behind h = h
    by true (Err why) before behind h = h
    by true (Ok frame) before behind h = (before, (behind, (refl, h)))

pub carries : (m : Setting) (ops : List Op) (opening : State) (es : List Sent) → IsRecordOfRun m ops opening es → IsCarried m ops opening es
carries m ops opening es h = record { writes = λ c. sym (h.writes c); reads = λ c after. mixed_reads m.site c after (sents (plain_tells act tell (acts_from m 1 ops) opening)) es h.all }
