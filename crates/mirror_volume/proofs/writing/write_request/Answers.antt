use Rattle.std.proofs.Common.{ℕ, ◌≡◌, ◌<◌, ◌++◌, List, Option, true, false, ap, length, rules, sym, ◌∙◌}
use Rattle.std.proofs.lemmas.List.Elements.{All-from_get_or}
use Rattle.std.proofs.lemmas.Result.{IfOk-weaker}
use Rattle.bio_core.specs.declared.fate.Why.{Why}
use Rattle.stack_ops.specs.declared.reply.Reply.{Reply}
use Rattle.walk_laws.specs.ScriptWalk.{bad_from, whole_or_bad}
use Rattle.mirror_laws.specs.OnLegs.{listed_written, marks_written}
use Rattle.mirror_volume.specs.declared.piece.Piece.{Piece}
use Rattle.mirror_volume.specs.Inner.{write_script}
use Rattle.script_text.specs.declared.script.Script.{Script}
use Rattle.mirror_volume.specs.LegRuns.{found_by, replies_of}
use Rattle.mirror_volume.specs.OnOps.{IsWriteOf, whole_request}
use Rattle.mirror_volume.proofs.Borrowed.{written-back}
use Rattle.mirror_volume.proofs.Running.{none-run, run-both, run-so}
use Rattle.mirror_volume.proofs.writing.write_request.Goals as goal

-- a run on either leg is of the request
of-first : (s : Script) (half : ℕ) (piece : Piece) (op v n app : ℕ) (bytes : List ℕ) → piece ≡ whole_request op v n
    → (own : Script) → own ≡ write_script s half piece app bytes → IsWriteOf s half op v n app bytes own
of-first s half piece op v n app bytes e own is = record { on1 = false; own_is = is ∙ ap (λ (q : Piece). write_script s half q app bytes) e }

of-last : (s : Script) (half : ℕ) (piece : Piece) (op v n app : ℕ) (bytes : List ℕ) → piece ≡ whole_request op v n
    → (own : Script) → own ≡ write_script s half (record piece { on1 = true }) app bytes → IsWriteOf s half op v n app bytes own
of-last s half piece op v n app bytes e own is = record { on1 = true; own_is = is ∙ ap (λ (q : Piece). write_script s half (record q { on1 = true }) app bytes) e }

pub returns-in_err-found0-clause-ran : goal.returns-in_err-found0-clause-ran
returns-in_err-found0-clause-ran g c = none-run _ (search rules)

pub returns-in_err-found1-clause-ran : goal.returns-in_err-found1-clause-ran
returns-in_err-found1-clause-ran g c = none-run _ (search rules)

pub returns-in_err-write_piece-clause-ran : goal.returns-in_err-write_piece-clause-ran
returns-in_err-write_piece-clause-ran g c =
    let p = c.args.plan.now in
    let on0 = c.args.on0 in
    let x = c.in_err-write_piece.ensures.ran in
    run-so _ x (of-first p.script p.half on0 on0.op on0.v on0.n c.args.app c.args.bytes.now c.requires.whole) (search rules)

pub returns-in_err-write_piece-2-clause-ran : goal.returns-in_err-write_piece-2-clause-ran
returns-in_err-write_piece-2-clause-ran g c =
    let p = c.args.plan.now in
    let on0 = c.args.on0 in
    let x = c.in_ok-write_piece.ensures.ran in
    let y = c.in_err-write_piece-2.ensures.ran in
    let of0 = run-so (λ runs. Unit {0}) x (of-first p.script p.half on0 on0.op on0.v on0.n c.args.app c.args.bytes.now c.requires.whole) tt in
    let of1 = run-so (λ runs. Unit {0}) y (of-last p.script p.half on0 on0.op on0.v on0.n c.args.app c.args.bytes.now c.requires.whole) tt in
    run-both _ of0 of1 (search rules)

pub returns-clause-ran : goal.returns-clause-ran
returns-clause-ran g c =
    let p = c.args.plan.now in
    let on0 = c.args.on0 in
    let app = c.args.app in
    let bytes = c.args.bytes.now in
    let x = c.in_ok-write_piece.ensures.ran in
    let y = c.in_ok-write_piece-2.ensures.ran in
    let of0 = run-so (λ runs. Unit {0}) x (of-first p.script p.half on0 on0.op on0.v on0.n app bytes c.requires.whole) tt in
    let of1 = run-so (λ runs. Unit {0}) y (of-last p.script p.half on0 on0.op on0.v on0.n app bytes c.requires.whole) tt in
    let first = x.came in
    let last = y.came in
    let long0 : length c.write_piece.new.found ≡ c.in_ok-found0.found0.len = c.write_piece.auto.found ∙ ap length c.deref_mut.ensures.value ∙ sym c.in_ok-found0.found0.ok.0 in
    let long1 : length c.write_piece-2.new.found ≡ c.in_ok-found1.found1.len = c.write_piece-2.auto.found ∙ ap length c.deref_mut-2.ensures.value ∙ sym c.in_ok-found1.found1.ok.0 in
    let back0 = written-back c.in_ok-found0.found0.len c.write_piece.new.found c.in_ok-found0.found0.items long0 in
    let back1 = written-back c.in_ok-found1.found1.len c.write_piece-2.new.found c.in_ok-found1.found1.items long1 in
    let found0 : c.deref.result.now ≡ found_by on0.n (replies_of first.run) = c.deref.ensures.value ∙ back0 ∙ first.so in
    let found1 : c.deref-2.result.now ≡ found_by on0.n (replies_of last.run) = c.deref-2.ensures.value ∙ back1 ∙ last.so in
    let both0 : c.deref_mut-3.result.now ≡ c.write_piece.new.found = c.deref_mut-3.ensures.value ∙ back0 in
    let both1 : c.deref-3.result.now ≡ found_by on0.n (replies_of last.run) = c.deref-3.ensures.value ∙ back1 ∙ last.so in
    let long : length c.list_by_both.new.found0 ≡ c.in_ok-found0.found0.len = c.list_by_both.auto.found0 ∙ ap length both0 ∙ long0 in
    let listed : c.deref-4.result.now ≡ listed_written (found_by on0.n (replies_of first.run)) (found_by on0.n (replies_of last.run)) =
    c.deref-4.ensures.value ∙ written-back c.in_ok-found0.found0.len c.list_by_both.new.found0 _ long ∙ c.list_by_both.ensures ∙ (λ i. listed_written ((both0 ∙ first.so) i) (both1 i)) in
    run-both _ of0 of1 (IfOk-weaker c.request_reply.result _ _ (λ (reply : Reply) e. record {
      octets = All-from_get_or (λ (x : ℕ). x < 256) c.args.bytes.now 0 (λ i l. (c.type_inv.bytes i).fits);
      on0 = first.run;
      on1 = last.run;
      runs_are = λ i. first.only i ++ last.only i;
      own0 = first.own_is ∙ ap (λ (q : Piece). write_script p.script p.half q app bytes) c.requires.whole;
      own1 = last.own_is ∙ ap (λ (q : Piece). write_script p.script p.half (record q { on1 = true }) app bytes) c.requires.whole;
      marks = c.mark.ensures.marks ∙ (λ i. marks_written on0.v (found0 i) (found1 i) c.args.marks.now);
      reply_is = e ∙ ap (λ (l : List (Option Why)). whole_or_bad (bad_from 0 l)) listed;
    }) c.request_reply.ensures)
