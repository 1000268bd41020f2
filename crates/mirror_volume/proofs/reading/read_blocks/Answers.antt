use Rattle.std.proofs.Common.{ℕ, ◌≡◌, ◌*◌, List, None, Option, Some, ap, length, refl, replicate, rules, sym, true, ◌∙◌}
use Rattle.bio_core.specs.declared.fate.Why.{Why}
use Rattle.mirror_volume.specs.declared.piece.Piece.{Piece}
use Rattle.mirror_volume.specs.Inner.{read_script}
use Rattle.mirror_volume.specs.Asked.{IsReadOf, first_listed, fresh_on0, last_listed, rest_wanted}
use Rattle.mirror_volume.proofs.Borrowed.{written-back}
use Rattle.mirror_volume.proofs.Readings.{asked-same, first-long, on-other, read-by}
use Rattle.mirror_volume.proofs.Fetched.{rest-long}
use Rattle.mirror_volume.proofs.Running.{none-run, run-both, run-so}
use Rattle.mirror_volume.specs.declared.legs.Plan.{Plan}
use Rattle.mirror_volume.specs.Running.{HasRunOnLegs}
use Rattle.mirror_volume.specs.LegRuns.{LegRun}
use Rattle.rig_api.specs.State.{RigState}
use Rattle.mirror_volume.proofs.reading.read_blocks.Goals as goal

-- of no block anything is found, where what no finding is a clone of is none itself
none-found : (P : Option Why → Type 0) (found : List (Option Why)) (n : ℕ) → (((y : Option Why) → P y → y ≡ None) → found ≡ replicate n None) → ((why : Why) → P (Some why) → ⊥) → found ≡ replicate n None
none-found P found n h never = h is-none
  where
    is-none : (y : Option Why) → P y → y ≡ None
    is-none None k = refl
    is-none (Some why) k = absurd (never why k)

-- what is run on leg 1 is a read of the same blocks
abbrev of-other : {used used' : ℕ} {before after : RigState} {Came : List LegRun → Type 0} (p : Plan) (on0 : Piece) → HasRunOnLegs p used used' before after (IsReadOf p.script p.half (record on0 { on1 = true })) Came
    → HasRunOnLegs p used used' before after (IsReadOf p.script p.half on0) Came
of-other p on0 h = record { runs = h.runs; ran = h.ran; goes_on = h.goes_on; own = on-other p.script p.half on0 h.runs h.own; came = h.came; tells = h.tells }

pub returns-in_err-vec-clause-ran : goal.returns-in_err-vec-clause-ran
returns-in_err-vec-clause-ran g c = none-run _ (search rules)

pub returns-in_err-vec-2-clause-ran : goal.returns-in_err-vec-2-clause-ran
returns-in_err-vec-2-clause-ran g c = none-run _ (search rules)

pub returns-in_err-wanted-clause-ran : goal.returns-in_err-wanted-clause-ran
returns-in_err-wanted-clause-ran g c = none-run _ (search rules)

pub returns-in_err-ask-clause-ran : goal.returns-in_err-ask-clause-ran
returns-in_err-ask-clause-ran g c = run-so _ c.in_err-ask.ensures.ran (λ s h. h) (search rules)

pub returns-in_err-listed-clause-ran : goal.returns-in_err-listed-clause-ran
returns-in_err-listed-clause-ran g c = run-so _ c.in_ok-ask.ensures.ran (λ s h. h) (search rules)

pub returns-in_err-wanted-2-clause-ran : goal.returns-in_err-wanted-2-clause-ran
returns-in_err-wanted-2-clause-ran g c = run-so _ c.in_ok-ask.ensures.ran (λ s h. h) (search rules)

pub ask-requires-2-clause-wanted : goal.ask-requires-2-clause-wanted
ask-requires-2-clause-wanted g c =
    let marks = c.args.marks.now in
    let found = c.in_ok-ask.ensures.found ∙ sym c.in_ok-vec-2.field-0.ok.0 ∙ c.in_ok-vec-2.ensures.len in
    let each : length c.deref-3.result.now ≡ length marks = ap length c.deref-3.ensures.value ∙ found ∙ sym c.requires.marks in
    ap length (c.deref-4.ensures.value ∙ c.in_ok-wanted-2.ensures) ∙ rest-long marks c.deref-3.result.now each ∙ c.requires.marks

pub returns-in_err-ask-2-clause-ran : goal.returns-in_err-ask-2-clause-ran
returns-in_err-ask-2-clause-ran g c =
    let p = c.args.plan.now in
    let on0 = c.args.on0 in
    let y = c.in_err-ask-2.ensures.ran in
    run-both _ c.in_ok-ask.ensures.ran (of-other p on0 y) (search rules)

pub list_last-requires-clause-wanted : goal.list_last-requires-clause-wanted
list_last-requires-clause-wanted g c =
    let marks = c.args.marks.now in
    let found = c.in_ok-ask.ensures.found ∙ sym c.in_ok-vec-2.field-0.ok.0 ∙ c.in_ok-vec-2.ensures.len in
    let each : length c.deref-3.result.now ≡ length marks = ap length c.deref-3.ensures.value ∙ found ∙ sym c.requires.marks in
    ap length (c.deref-5.ensures.value ∙ c.in_ok-wanted-2.ensures) ∙ rest-long marks c.deref-3.result.now each

pub list_last-requires-clause-listed : goal.list_last-requires-clause-listed
list_last-requires-clause-listed g c =
    let marks = c.args.marks.now in
    let found = c.in_ok-ask.ensures.found ∙ sym c.in_ok-vec-2.field-0.ok.0 ∙ c.in_ok-vec-2.ensures.len in
    let each : length c.deref-2.result.now ≡ length marks = ap length c.deref-2.ensures.value ∙ found ∙ sym c.requires.marks in
    ap length (c.deref_mut.ensures.value ∙ c.in_ok-listed.ensures) ∙ first-long marks c.deref-2.result.now each

pub returns-clause-listed : goal.returns-clause-listed
returns-clause-listed g c =
    let marks = c.args.marks.now in
    let found = c.in_ok-ask.ensures.found ∙ sym c.in_ok-vec-2.field-0.ok.0 ∙ c.in_ok-vec-2.ensures.len in
    let each : length c.deref-2.result.now ≡ length marks = ap length c.deref-2.ensures.value ∙ found ∙ sym c.requires.marks in
    let all : length c.deref_mut.result.now ≡ c.args.on0.n = ap length (c.deref_mut.ensures.value ∙ c.in_ok-listed.ensures) ∙ first-long marks c.deref-2.result.now each ∙ c.requires.marks in
    let kept : length c.list_last.new.listed ≡ c.in_ok-listed.listed.len = c.list_last.auto.listed ∙ ap length c.deref_mut.ensures.value ∙ sym c.in_ok-listed.listed.ok.0 in
    ap length (written-back c.in_ok-listed.listed.len c.list_last.new.listed c.in_ok-listed.listed.items kept) ∙ c.list_last.auto.listed ∙ all

pub returns-clause-ran : goal.returns-clause-ran
returns-clause-ran g c =
    let p = c.args.plan.now in
    let script = read_script p.script p.half in
    let size = p.script.block in
    let on0 = c.args.on0 in
    let on1 : Piece = record on0 { on1 = true } in
    let marks = c.args.marks.now in
    let before = c.in_ok-vec-2.field-0.items in
    let zeros = c.in_ok-vec.field-0.items in
    let found0 = c.ask.new.came.found.items in
    let found1 = c.ask-2.new.came.found.items in
    let bytes0 = c.ask.new.came.bytes.items in
    let bytes1 = c.ask-2.new.came.bytes.items in
    let x = c.in_ok-ask.ensures.ran in
    let y = c.in_ok-ask-2.ensures.ran in
    let none : before ≡ replicate on0.n None = none-found _ before on0.n c.in_ok-vec-2.ensures.items_if_clones_equal (λ why k. k) in
    let blank : zeros ≡ replicate (on0.n * size) 0 = c.in_ok-vec.ensures.items_if_clones_equal (λ y h. h) in
    let fresh : c.deref.result.now ≡ fresh_on0 marks = c.deref.ensures.value ∙ c.in_ok-wanted.ensures in
    let rest : c.deref-4.result.now ≡ rest_wanted marks found0 = c.deref-4.ensures.value ∙ c.in_ok-wanted-2.ensures ∙ ap (rest_wanted marks) c.deref-3.ensures.value in
    let rest' : c.deref-5.result.now ≡ rest_wanted marks found0 = c.deref-5.ensures.value ∙ c.in_ok-wanted-2.ensures ∙ ap (rest_wanted marks) c.deref-3.ensures.value in
    let listed0 : c.deref_mut.result.now ≡ first_listed marks found0 = c.deref_mut.ensures.value ∙ c.in_ok-listed.ensures ∙ ap (first_listed marks) c.deref-2.ensures.value in
    let kept : length c.list_last.new.listed ≡ c.in_ok-listed.listed.len = c.list_last.auto.listed ∙ ap length c.deref_mut.ensures.value ∙ sym c.in_ok-listed.listed.ok.0 in
    let back = written-back c.in_ok-listed.listed.len c.list_last.new.listed c.in_ok-listed.listed.items kept in
    let listed = back ∙ c.list_last.ensures ∙ (λ i. last_listed marks (rest' i) (listed0 i) (c.deref-6.ensures.value i)) in
    let first = asked-same script on0 size c.deref.result.now (fresh_on0 marks) x.runs before (replicate on0.n None) found0 zeros (replicate (on0.n * size) 0) bytes0 fresh none blank x.came in
    let last = asked-same script on1 size c.deref-4.result.now (rest_wanted marks found0) y.runs found0 found0 found1 bytes0 bytes0 bytes1 rest refl refl y.came in
    run-both _ x (of-other p on0 y) (record { runs0 = x.runs; runs1 = y.runs; runs_are = refl; read = read-by p.script p.half on0 marks x.runs y.runs found0 found1 _ bytes0 bytes1 first last listed })
