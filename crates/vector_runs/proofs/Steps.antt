-- Commands done one after another.
use Rattle.std.proofs.Common.{ℕ, ◌≡◌, ◌+◌, ◌<◌, ◌≤◌, List, [], ◌∷◌, ◌++◌, length, get_or, take, drop, Some, None, refl, sym, ap, subst, ◌∙◌, arith, append-nil, append_assoc}
use Rattle.std.specs.Prelude.{is_some, replicate}
use Rattle.std.proofs.lemmas.List.{length-replicate, take-append-drop, take_more, take_all}
use Rattle.dix_base.specs.Told.{Calm}
use Rattle.dix_base.proofs.Counts.{calm_first, calm_then}
use Rattle.fault_schedule.specs.declared.fault.FaultLine.{FaultLine}
use Rattle.rig_api.specs.Frames.{joined}
use Rattle.rig_api.specs.Target.{Answer, Stored}
use Rattle.rig_api.specs.Log.{LogEntry, Room, entry_of}
use Rattle.rig_api.specs.declared.rig.Outcome.{Outcome}
use Rattle.rig_api.specs.Telling.{IsAnswer, Standing, answer_of, at_front}
use Rattle.rig_api.specs.State.{Exchanged, RigState}
use Rattle.vector_lines.specs.declared.line.VectorLine.{VectorLine}
use Rattle.vector_runs.specs.Done.{AreRecords, HaveDone, HaveDoneSome, IsLineRecord, VectorsStay, LineWasDone, answer_to, answers_over, entry_to, room_of, size_of, units_over, units_to}

records_more : (s : Standing) (ls : List VectorLine) (es : List LogEntry) (l : VectorLine) (e : LogEntry) → AreRecords s ls es → IsLineRecord s l e → AreRecords s (ls ++ (l ∷ [])) (es ++ (e ∷ []))
records_more s [] [] l e d w = (w, tt)
records_more s [] (x ∷ es) l e d w = absurd d
records_more s (x ∷ ls) [] l e d w = absurd d
records_more s (x ∷ ls) (y ∷ es) l e d w = (d.0, records_more s ls es l e d.1 w)

answers_more : (s : Standing) (us : List Stored) (ls : List VectorLine) (l : VectorLine) → answers_over s us (ls ++ (l ∷ [])) ≡ answers_over s us ls ++ (entry_to s (units_over s us ls) l ∷ [])
answers_more s us [] l = refl
answers_more s us (x ∷ ls) l = ap (λ (v : List LogEntry). entry_to s us x ∷ v) (answers_more s (units_to s us x) ls l)

units_more : (s : Standing) (us : List Stored) (ls : List VectorLine) (l : VectorLine) → units_over s us (ls ++ (l ∷ [])) ≡ units_to s (units_over s us ls) l
units_more s us [] l = refl
units_more s us (x ∷ ls) l = units_more s (units_to s us x) ls l

-- nothing was done yet
pub none_done : (v : RigState) → HaveDone [] v v
none_done v = record {
  entries = [];
  log = sym (append-nil v.log);
  records = tt;
  told = λ us e q. (refl, e);
  tells = refl;
  armed = refl;
  standing = refl;
  count = omega arith;
}

-- one more command was done
done_more : (ls : List VectorLine) (l : VectorLine) (a b c : RigState) → HaveDone ls a b → LineWasDone l b c → HaveDone (ls ++ (l ∷ [])) a c
done_more ls l a b c x y = record {
  entries = x.entries ++ (y.entry ∷ []);
  log = y.log ∙ ap (λ (v : List LogEntry). v ++ (y.entry ∷ [])) x.log ∙ append_assoc a.log x.entries (y.entry ∷ []);
  records = records_more a.standing ls x.entries l y.entry x.records (subst (λ (s : Standing). IsLineRecord s l y.entry) x.standing y.is);
  told = λ us e q.
      let first = x.told us e (calm_first a.faults b.faults c.faults y.count q) in
      let then = y.told (units_over a.standing us ls) first.1 (calm_then a.faults b.faults c.faults x.count q) in
      let entry : y.entry ≡ entry_to a.standing (units_over a.standing us ls) l = then.0 ∙ ap (λ (s : Standing). entry_to s (units_over a.standing us ls) l) x.standing in
      let units : units_to b.standing (units_over a.standing us ls) l ≡ units_to a.standing (units_over a.standing us ls) l = ap (λ (s : Standing). units_to s (units_over a.standing us ls) l) x.standing in (
        ap (λ (v : List LogEntry). v ++ (y.entry ∷ [])) first.0 ∙ ap (λ (v : LogEntry). answers_over a.standing us ls ++ (v ∷ [])) entry ∙ sym (answers_more a.standing us ls l),
        then.1 ∙ ap Some (units ∙ sym (units_more a.standing us ls l)),
      );
  tells = y.tells ∙ x.tells;
  armed = y.armed ∙ x.armed;
  standing = y.standing ∙ x.standing;
  count = omega (arith, x.count, y.count);
}

-- one more of a list of lines
pub done_next : (lines : List VectorLine) (i : ℕ) (l : VectorLine) (a b c : RigState) → l ≡ get_or lines i l → i < length lines → HaveDone (take i lines) a b → LineWasDone l b c → HaveDone (take (i + 1) lines) a c
done_next lines i l a b c is h x y =
    subst (λ (v : List VectorLine). HaveDone v a c) (sym (take_more lines i l h))
    (done_more (take i lines) (get_or lines i l) a b c x (subst (λ (v : VectorLine). LineWasDone v b c) is y))

-- what was done is still what was done
still : (ls : List VectorLine) (a b c : RigState) → HaveDone ls a b → VectorsStay b c → HaveDone ls a c
still ls a b c x y = record {
  entries = x.entries;
  log = y.log ∙ x.log;
  records = x.records;
  told = λ us e q. let first = x.told us e (calm_first a.faults b.faults c.faults y.count q) in (first.0, y.units ∙ first.1);
  tells = ap is_some y.image ∙ x.tells;
  armed = y.armed ∙ x.armed;
  standing = y.standing ∙ x.standing;
  count = omega (arith, x.count, y.count);
}

-- where memory lacked at a line
pub lacked_at : (lines : List VectorLine) (i : ℕ) (a b c : RigState) → HaveDone (take i lines) a b → VectorsStay b c → HaveDoneSome lines a c
lacked_at lines i a b c x y = record { first = take i lines; left = drop i lines; lines_are = sym (take-append-drop i lines); done = still (take i lines) a b c x y }

-- all were done
pub done_all : (lines : List VectorLine) (i : ℕ) (a b : RigState) → length lines ≤ i → HaveDone (take i lines) a b → HaveDone lines a b
done_all lines i a b h x = subst (λ (v : List VectorLine). HaveDone v a b) (take_all i lines h) x

calm_same : (a b c : ℕ) → b ≡ a → Calm a c → Calm b c
calm_same a b c e q = subst (λ n. Calm n c) (sym e) q

-- an exchange of the line's command, behind room for it, of its bytes and with room for what it reads, does the command
pub was_done : (l : VectorLine) (a b c : RigState) (spare : Room) (o : Outcome) (cdb out before after : List ℕ) → b ≡ record a { room = spare } → a.armed ≡ [] → cdb ≡ l.cdb → out ≡ l.out → before ≡ replicate (room_of (size_of a.standing l) l.cdb) 0 → length after ≡ length before
    → Exchanged b c l.dev cdb [] out before after o → LineWasDone l a c
was_done l a b c spare o cdb out before after same calm ec eo eb long x =
    let size = size_of a.standing l in
    let room = room_of size l.cdb in
    record {
      entry = entry_of size l.dev l.cdb [] o l.out after;
      log = x.recorded
          ∙ ap (λ (s : RigState). s.log ++ (entry_of (size_of s.standing l) l.dev cdb [] o out after ∷ [])) same
          ∙ ap (λ (v : List ℕ). a.log ++ (entry_of size l.dev v [] o out after ∷ [])) ec
          ∙ ap (λ (v : List ℕ). a.log ++ (entry_of size l.dev l.cdb [] o v after ∷ [])) eo;
      is = record { outcome = o; into = after; room = long ∙ ap length eb ∙ length-replicate room 0; entry = refl };
      told = λ us e q.
          let here = x.calm us (ap (λ (s : RigState). s.units) same ∙ e) (calm_same a.faults b.faults c.faults (ap (λ (s : RigState). s.faults) same) q) in
          let answered : answer_of us b.armed l.dev cdb [] out (length before) None ≡ answer_to a.standing us l =
          ap (λ (v : List FaultLine). answer_of us v l.dev cdb [] out (length before) None) (ap (λ (s : RigState). s.armed) same ∙ calm)
          ∙ ap (λ (v : List ℕ). answer_of us [] l.dev v [] out (length before) None) ec
          ∙ ap (λ (v : List ℕ). answer_of us [] l.dev l.cdb [] v (length before) None) eo
          ∙ ap (λ (n : ℕ). answer_of us [] l.dev l.cdb [] l.out n None) (ap length eb ∙ length-replicate room 0) in
          let is = subst (λ (v : Answer). IsAnswer v us l.dev o c.units before after) answered here in
          let answer = answer_to a.standing us l in (
            ap (λ (v : Outcome). entry_of size l.dev l.cdb [] v l.out after) is.outcome
                ∙ ap (λ (v : List ℕ). entry_of size l.dev l.cdb [] (record { done = answer.done; sense = answer.sense }) l.out v) (is.into ∙ ap (at_front (joined answer.sent)) eb),
            is.units,
          );
      tells = x.tells ∙ ap (λ (s : RigState). is_some s.image) same;
      armed = x.armed ∙ ap (λ (s : RigState). s.armed) same;
      standing = x.standing ∙ ap (λ (s : RigState). s.standing) same;
      count = omega (arith, ap (λ (s : RigState). s.faults) same, x.count);
    }
