use Rattle.std.proofs.Common.{◌≡◌, take, drop, ◌++◌, [], take_at, ◌*◌, ap, length, refl, rules, subst, sym, ◌∙◌, List}
use Rattle.std.specs.Prelude.{IfOk}
use Rattle.mirror_laws.specs.declared.marks.Marks.{Marks}
use Rattle.mirror_volume.specs.declared.piece.Piece.{Piece}
use Rattle.mirror_volume.specs.OnOps.{Sides, WroteBy}
use Rattle.mirror_volume.proofs.Dones.{data-long, did-write}
use Rattle.mirror_volume.proofs.Runs.{ran-nothing}
use Rattle.mirror_volume.proofs.ops.write_blocks.Goals as goal
use Rattle.rig_api.specs.State.{RigState}

pub returns-in_err-bytes-clause-ran : goal.returns-in_err-bytes-clause-ran
returns-in_err-bytes-clause-ran g c = record { runs = []; ran = ran-nothing _ _ _; goes_on = refl; own = tt; came = search rules; tells = refl; standing = refl }

pub write_request-requires-clause-long : goal.write_request-requires-clause-long
write_request-requires-clause-long g c =
    ap length (c.deref.ensures.value ∙ c.in_ok-bytes.ensures) ∙ data-long c.args.state.now.pool c.args.body.now ∙ c.requires.request.long ∙ ap (λ (q : Piece). q.n * c.args.plan.now.script.block) (sym c.whole_request-on0.ensures)

pub returns-clause-ran : goal.returns-clause-ran
returns-clause-ran g c =
    let p = c.args.plan.now in
    let x = c.write_request.ensures.ran in
    let old : Sides = record { pool = c.args.state.now.pool; marks = c.args.state.now.marks.items } in
    let new : Sides = record { pool = c.args.state.now.pool; marks = take c.args.state.now.marks.len (c.write_request.new.marks ++ drop (length c.write_request.new.marks) c.args.state.now.marks.items) } in
    let asked = c.args.rig.now in
    let end = c.write_request.new.rig in
    let before : RigState = g.R.Rig.state asked in
    let after : RigState = g.R.Rig.state end in
    let q = c.whole_request-on0.result in
    let copied = c.deref.ensures.value ∙ c.in_ok-bytes.ensures in
    let long = c.write_request.ensures.marks ∙ c.deref_mut.ensures.len in
    let same : c.write_request.new.marks ≡ new.marks = sym (take_at c.write_request.new.marks (drop (length c.write_request.new.marks) c.args.state.now.marks.items) c.args.state.now.marks.len long) in
    let by = subst (λ (ms : List Marks). IfOk c.write_request.result (WroteBy p.script p.half q.op q.v q.n c.args.app c.deref.result.now old.marks ms x.runs)) same
    (subst (λ (ms : List Marks). IfOk c.write_request.result (WroteBy p.script p.half q.op q.v q.n c.args.app c.deref.result.now ms c.write_request.new.marks x.runs)) c.deref_mut.ensures.value x.came) in
    let did = did-write p.script p.half c.args.number c.args.v c.args.n c.args.body.now old new before after x.runs c.write_request.result q c.whole_request-on0.ensures _ c.args.app copied refl x.own by in
    record { runs = x.runs; ran = x.ran; goes_on = x.goes_on; own = did.0; came = did.1; tells = x.tells; standing = x.ran.standing }
