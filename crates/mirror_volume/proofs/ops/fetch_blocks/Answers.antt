use Rattle.std.proofs.Common.{◌≡◌, ℕ, ◌+◌, ◌-◌, ◌*◌, List, Option, ap, arith, drop, length, refl, rules, subst, sym, take, ◌∙◌}
use Rattle.std.specs.Prelude.{IfOk}
use Rattle.bio_core.specs.declared.fate.Why.{Why}
use Rattle.page_pool.specs.Pages.{Wrote}
use Rattle.page_pool.specs.Places.{range_of, total}
use Rattle.stack_ops.specs.declared.reply.Reply.{Reply}
use Rattle.walk_laws.specs.ScriptWalk.{bad_from, whole_or_bad}
use Rattle.mirror_laws.specs.declared.marks.Marks.{Marks}
use Rattle.mirror_volume.specs.OnOps.{Sides}
use Rattle.mirror_volume.specs.declared.piece.Piece.{Piece}
use Rattle.mirror_volume.specs.Asked.{IsReadOf}
use Rattle.mirror_volume.specs.LegRuns.{AllOwn}
use Rattle.mirror_volume.proofs.Dones.{did-fetch, reads}
use Rattle.mirror_volume.proofs.ops.fetch_blocks.Goals as goal
use Rattle.rig_api.specs.State.{RigState}

pub returns-in_err-listed-clause-ran : goal.returns-in_err-listed-clause-ran
returns-in_err-listed-clause-ran g c =
    let p = c.args.plan.now in
    let x = c.in_err-listed.ensures.ran in
    record {
      runs = x.runs;
      ran = x.ran;
      goes_on = x.goes_on;
      own = subst (λ (q : Piece). AllOwn (IsReadOf p.script p.half q) x.runs) c.whole_request-on0.ensures x.own;
      came = search rules;
      tells = x.tells;
      standing = x.ran.standing;
    }

pub returns-clause-ran : goal.returns-clause-ran
returns-clause-ran g c =
    let p = c.args.plan.now in
    let x = c.in_ok-listed.ensures.ran in
    let old : Sides = record { pool = c.args.state.now.pool; marks = c.args.state.now.marks.items } in
    let new : Sides = record { pool = c.scatter.new.self; marks = c.args.state.now.marks.items } in
    let asked = c.args.rig.now in
    let end = c.read_blocks.new.rig in
    let before : RigState = g.R.Rig.state asked in
    let after : RigState = g.R.Rig.state end in
    let q = c.whole_request-on0.result in
    let whole = c.whole_request-on0.ensures in
    let m = c.args.state.now.marks.items in
    let v = c.args.v in
    let n = c.args.n in
    let size = p.script.block in
    let body = c.args.body.now in
    let bytes = c.in_ok-listed.bytes.items in
    let listed = c.in_ok-listed.listed.items in
    let count : (v + n) - v ≡ n = omega arith in
    let marks : take ((v + n) - v) (drop v c.deref.result.now) ≡ take n (drop v m) = ap (λ k. take k (drop v c.deref.result.now)) count ∙ ap (λ (ms : List Marks). take n (drop v ms)) c.deref.ensures.value in
    let long : length bytes ≡ total body = c.in_ok-listed.ensures.bytes ∙ ap (λ (r : Piece). r.n * size) whole ∙ sym c.requires.request.long in
    let wrote = subst (λ k. Wrote old.pool new.pool (range_of body 0 k) bytes) long (subst (λ (bs : List ℕ). Wrote old.pool new.pool (range_of body 0 (length bs)) bs) c.deref-2.ensures.value c.scatter.ensures) in
    let replied = subst (λ (found : List (Option Why)). IfOk c.request_reply.result (λ (reply : Reply). reply ≡ whole_or_bad (bad_from 0 found))) c.deref-3.ensures.value c.request_reply.ensures in
    record {
      runs = x.runs;
      ran = x.ran;
      goes_on = x.goes_on;
      own = reads p.script p.half c.args.number v n body old new before after x.runs c.request_reply.result q whole bytes x.own;
      came = did-fetch p.script p.half c.args.number v n body old new before after x.runs c.request_reply.result q whole bytes (take ((v + n) - v) (drop v c.deref.result.now)) listed marks refl wrote x.came replied;
      tells = x.tells;
      standing = x.ran.standing;
    }
