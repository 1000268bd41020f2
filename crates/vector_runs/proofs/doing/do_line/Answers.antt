use Rattle.std.proofs.Common.{◌≡◌, ◌≤◌, length, ap, ◌∙◌, arith}
use Rattle.std.specs.Prelude.{replicate}
use Rattle.std.proofs.lemmas.List.{length-replicate}
use Rattle.rig_api.specs.Log.{capacity_len}
use Rattle.rig_api.specs.State.{RigState}
use Rattle.vector_runs.specs.Done.{room_of, size_of}
use Rattle.vector_runs.proofs.Bounds.{few_told}
use Rattle.vector_runs.proofs.Steps.{was_done}
use Rattle.vector_runs.proofs.doing.do_line.Goals as goal

pub exchange-requires-clause-capacity : goal.exchange-requires-clause-capacity
exchange-requires-clause-capacity g c =
    let long : length c.as_mut_slice-into.result.now ≡ room_of c.size.result c.as_slice-cdb.result.now = ap length (c.as_mut_slice-into.ensures.value ∙ c.in_ok-held.ensures) ∙ length-replicate c.room_of.result 0 ∙ c.room_of.ensures in
    let few : capacity_len c.as_slice-cdb.result.now (length c.as_mut_slice-into.result.now) ≤ 32 = rw long (few_told c.size.result c.as_slice-cdb.result.now) in
    let room = c.in_ok-reserve.ensures.room in
    omega (arith, few, room.moved)

pub returns : goal.returns
returns g c =
    let standing = (g.R.Rig.state c.args.rig.now).standing in
    let size : c.size.result ≡ size_of standing c.args.line.now = c.size.ensures ∙ ap (λ (s : RigState). size_of s.standing c.args.line.now) c.reserve.ensures.keeps in
    let room : c.room_of.result ≡ room_of (size_of standing c.args.line.now) c.args.line.now.cdb = c.room_of.ensures ∙ ap (λ n. room_of n c.as_slice-cdb.result.now) size ∙ ap (room_of (size_of standing c.args.line.now)) c.as_slice-cdb.ensures in
    was_done c.args.line.now _ (g.R.Rig.state c.reserve.new.self) _ _ c.exchange.result c.as_slice-cdb.result.now c.as_slice-sent.result.now c.as_mut_slice-into.result.now c.exchange.new.into
    c.reserve.ensures.keeps c.requires.calm c.as_slice-cdb.ensures c.as_slice-sent.ensures (c.as_mut_slice-into.ensures.value ∙ c.in_ok-held.ensures ∙ ap (λ n. replicate n 0) room) c.exchange.auto.into
    c.exchange.ensures.exchanged
