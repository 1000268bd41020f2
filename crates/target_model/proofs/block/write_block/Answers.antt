use Rattle.std.proofs.Common.{◌≡◌, ◌+◌, ◌≤◌, ℕ, List, length, take, drop, ◌++◌, Bool, false, Option, None, Some, Result, Ok, arith, refl, sym, ap, ◌∙◌}
use Rattle.std.proofs.lemmas.List.{length-take, length-drop}
use Rattle.dix_base.specs.Told.{Apart, Becomes, Rose, over}
use Rattle.fault_schedule.specs.declared.Label.{Label}
use Rattle.fault_schedule.specs.declared.fault.FaultLine.{FaultLine}
use Rattle.pi_tuple.specs.declared.checks.Check.{Check}
use Rattle.sense_codes.specs.declared.Sense.{Sense}
use Rattle.rig_api.specs.Frames.{sent_size, stored_size}
use Rattle.rig_api.specs.Passing.{to_medium}
use Rattle.rig_api.specs.Target.{Flaw, fails_under, kept_under, medium_sense, onto_medium, stored_unless, then_kept}
use Rattle.rig_api.proofs.KeptLaws.{kept-length}
use Rattle.target_model.specs.Served.{BlockWritten}
use Rattle.target_model.proofs.Bytes.{apart_wider, told_length, becomes_some, over_back, over_front, front_is, copied_length}
use Rattle.target_model.proofs.block.write_block.Goals as goal

unstored : (faults : List FaultLine) (label : Option Label) (judged : Result (List ℕ) Flaw) (frame : List ℕ) (size part place lba o n : ℕ) (before now : Option (List ℕ)) (bytes : List ℕ) (sense : Sense) →
    before ≡ Some bytes → judged ≡ Ok frame → length frame ≡ size → part ≤ size → place + size ≤ length bytes → sense ≡ medium_sense 0x0C lba → Becomes (Apart place part) before now → Rose o n →
    BlockWritten (then_kept faults label (take size (drop place bytes)) judged) size place lba o n bytes (Some sense) now
unstored faults label judged frame size part place lba o n before now bytes sense e j l p h s b r =
    let w = becomes_some _ before now bytes e b in
    let apart = apart_wider place part size bytes w.0 p w.2 in
    let left : List ℕ = take size (drop place w.0) in
    let same : length w.0 ≡ length bytes = w.2.0 in
    let long : length left ≡ size = simp (length-take, length-drop) (omega arith) in
    let old : length (take size (drop place bytes)) ≡ length frame = simp (length-take, length-drop) (omega arith) in
    let kept : length (kept_under faults label (take size (drop place bytes)) frame) ≡ size = kept-length faults label (take size (drop place bytes)) frame old ∙ l in
    rw j (kept, (r, s, (left, long ∙ sym kept, w.1 ∙ ap (λ v. Some v) (over_back place size bytes w.0 h apart))))

stored : (faults : List FaultLine) (label : Option Label) (judged : Result (List ℕ) Flaw) (frame front : List ℕ) (size part place lba o n : ℕ) (before now : Option (List ℕ)) (bytes : List ℕ) →
    before ≡ Some bytes → judged ≡ Ok frame → length frame ≡ size → part ≤ size → place + size ≤ length bytes → front ≡ take part frame →
    ((old : List ℕ) → length old ≡ size → kept_under faults label old frame ≡ take part frame ++ drop part old) →
    Becomes (λ old new. new ≡ over place front old) before now →
    BlockWritten (then_kept faults label (take size (drop place bytes)) judged) size place lba o n bytes None now
stored faults label judged frame front size part place lba o n before now bytes e j l p h fe k b =
    let w = becomes_some _ before now bytes e b in
    let old : length (take size (drop place bytes)) ≡ size = simp (length-take, length-drop) (omega arith) in
    let is : kept_under faults label (take size (drop place bytes)) frame ≡ take part frame ++ drop part (take size (drop place bytes)) = k (take size (drop place bytes)) old in
    let kept : length (kept_under faults label (take size (drop place bytes)) frame) ≡ size = kept-length faults label (take size (drop place bytes)) frame (old ∙ sym l) ∙ l in
    let same : w.0 ≡ over place (kept_under faults label (take size (drop place bytes)) frame) bytes = w.2 ∙ ap (λ t. over place t bytes) fe ∙ over_front place part size frame bytes l p h ∙ ap (λ t. over place t bytes) (sym is) in
    rw j (kept, w.1 ∙ ap (λ v. Some v) same)

-- a block that passes the target's check, and that no line lets the medium fail
unfailing : (broken : Bool) (checked : Result (List ℕ) Check) (frame : List ℕ) → broken ≡ false → checked ≡ Ok frame → stored_unless broken checked ≡ Ok frame
unfailing broken checked frame b j = rw (b, j) refl

pub returns-in-Ok-clause-told : goal.returns-in-Ok-clause-told
returns-in-Ok-clause-told g c =
    λ bytes e.
    let len : (g.S.Store.state c.args.store.now).length ≡ length bytes = told_length _ _ bytes e (g.met.S.Store.told c.args.store.now) in
    let long : length c.to_medium.new.frame ≡ stored_size c.args.block.ty c.args.block.size = c.in-None.ensures.length ∙ grown in
    let room : c.args.place + stored_size c.args.block.ty c.args.block.size ≤ length bytes = omega (arith, len, c.requires.held, c.requires.frame) in
    let part : c.bytes_stored-stored.result ≤ stored_size c.args.block.ty c.args.block.size = omega (arith, c.bytes_stored-stored.ensures.within, long) in
    stored c.args.tamper.now c.args.block.label (onto_medium c.args.tamper.now c.args.block c.args.sent.now) c.to_medium.new.frame (take c.bytes_stored-stored.result c.to_medium.new.frame) (stored_size c.args.block.ty c.args.block.size) c.bytes_stored-stored.result
    c.args.place c.args.block.lba (g.S.Store.state c.args.store.now).faults (g.S.Store.state c.store_front.new.store).faults (g.S.Store.state c.args.store.now).bytes (g.S.Store.state c.store_front.new.store).bytes bytes e
    (unfailing (fails_under c.args.tamper.now c.args.block.label) (to_medium c.args.tamper.now c.args.block c.args.sent.now) c.to_medium.new.frame (sym c.is_failing.ensures ∙ c.if-is_failing.false)
    (sym (c.in-None.ensures.judged ∙ ap (to_medium c.args.tamper.now c.args.block) sent))) long part room refl
    (λ old o. c.bytes_stored-stored.ensures.front old c.to_medium.new.frame (o ∙ sym long) refl) c.in-Ok.ensures.written
  where
    grown : length (c.copy_from_slice.new.self ++ drop (length c.args.sent.now) c.args.frame.now) ≡ stored_size c.args.block.ty c.args.block.size
    grown = copied_length c.copy_from_slice.new.self c.args.sent.now c.args.frame.now c.copy_from_slice.ensures.after c.requires.fits ∙ c.requires.frame

    sent : take (sent_size c.args.block.protect c.args.block.size) (c.copy_from_slice.new.self ++ drop (length c.args.sent.now) c.args.frame.now) ≡ c.args.sent.now
    sent = front_is (sent_size c.args.block.protect c.args.block.size) c.copy_from_slice.new.self (drop (length c.args.sent.now) c.args.frame.now) c.args.sent.now c.copy_from_slice.ensures.after c.requires.sent

pub returns-in-Err-clause-told : goal.returns-in-Err-clause-told
returns-in-Err-clause-told g c =
    λ bytes e.
    let len : (g.S.Store.state c.args.store.now).length ≡ length bytes = told_length _ _ bytes e (g.met.S.Store.told c.args.store.now) in
    let long : length c.to_medium.new.frame ≡ stored_size c.args.block.ty c.args.block.size = c.in-None.ensures.length ∙ grown in
    let room : c.args.place + stored_size c.args.block.ty c.args.block.size ≤ length bytes = omega (arith, len, c.requires.held, c.requires.frame) in
    let short : length (take c.bytes_stored-stored.result c.to_medium.new.frame) ≤ stored_size c.args.block.ty c.args.block.size = simp length-take (omega (arith, long)) in
    unstored c.args.tamper.now c.args.block.label (onto_medium c.args.tamper.now c.args.block c.args.sent.now) c.to_medium.new.frame (stored_size c.args.block.ty c.args.block.size) (length (take c.bytes_stored-stored.result c.to_medium.new.frame))
    c.args.place c.args.block.lba (g.S.Store.state c.args.store.now).faults (g.S.Store.state c.store_front.new.store).faults (g.S.Store.state c.args.store.now).bytes (g.S.Store.state c.store_front.new.store).bytes bytes c.medium-in-Err.result e
    (unfailing (fails_under c.args.tamper.now c.args.block.label) (to_medium c.args.tamper.now c.args.block c.args.sent.now) c.to_medium.new.frame (sym c.is_failing.ensures ∙ c.if-is_failing.false)
    (sym (c.in-None.ensures.judged ∙ ap (to_medium c.args.tamper.now c.args.block) sent))) long short room c.medium-in-Err.ensures c.in-Err.ensures.apart c.in-Err.ensures.counted.cause
  where
    grown : length (c.copy_from_slice.new.self ++ drop (length c.args.sent.now) c.args.frame.now) ≡ stored_size c.args.block.ty c.args.block.size
    grown = copied_length c.copy_from_slice.new.self c.args.sent.now c.args.frame.now c.copy_from_slice.ensures.after c.requires.fits ∙ c.requires.frame

    sent : take (sent_size c.args.block.protect c.args.block.size) (c.copy_from_slice.new.self ++ drop (length c.args.sent.now) c.args.frame.now) ≡ c.args.sent.now
    sent = front_is (sent_size c.args.block.protect c.args.block.size) c.copy_from_slice.new.self (drop (length c.args.sent.now) c.args.frame.now) c.args.sent.now c.copy_from_slice.ensures.after c.requires.sent
