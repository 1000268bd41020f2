use Rattle.std.proofs.Common.{◌≡◌, length, ap, sym, ◌∙◌, refl, rules, subst}
use Rattle.std.specs.Prelude.{replicate}
use Rattle.std.proofs.lemmas.Option.{none-some, same_Some}
use Rattle.std.proofs.lemmas.Result.{IfOk-weaker}
use Rattle.nvme_front.specs.Answers.{HasNamespaces}
use Rattle.nvme_front.specs.Commands.{command_in}
use Rattle.nvme_front.specs.Refusals.{device_at, meta_len}
use Rattle.nvme_front.specs.Results.{IsAnswered}
use Rattle.nvme_command.specs.Sessions.{filled, given}
use Rattle.nvme_command.specs.declared.session_doing.NvmReply.{NvmReply}
use Rattle.nvme_command.proofs.Kept.{devices-kept, given-long}
use Rattle.nvme_command.proofs.session_doing.do_command.Goals as goal

pub do_granted-requires-clause-meta : goal.do_granted-requires-clause-meta
do_granted-requires-clause-meta g c = ap length c.in_ok-tuples.ensures ∙ given-long c.in-Ok.lengths.1 c.args.meta.now ∙ c.in-Ok.ensures.meta

pub returns-in-Err-clause-replied : goal.returns-in-Err-clause-replied
returns-in-Err-clause-replied g c = record {
  refused = λ x q. record { completion = same_Some _ x (sym c.in-Err.ensures.refused ∙ q); log = refl; units = refl; body = search rules; meta = search rules };
  answered = λ n. absurd (none-some _ (sym n ∙ c.in-Err.ensures.refused));
}

pub returns-clause-replied : goal.returns-clause-replied
returns-clause-replied g c =
    let front = c.args.front.now in
    let d = command_in c.args.sqe.now in
    let old = g.R.Rig.state c.args.rig.now in
    let new = g.R.Rig.state c.do_granted.new.rig in
    let body : c.in_ok-body.body.items ≡ filled front d c.args.fill = c.in_ok-body.ensures ∙ ap (λ n. replicate n c.args.fill) c.in-Ok.ensures.body in
    let meta : c.in_ok-tuples.tuples.items ≡ given (meta_len (device_at front d.nsid).ty d) c.args.meta.now = c.in_ok-tuples.ensures ∙ ap (λ n. given n c.args.meta.now) c.in-Ok.ensures.meta in
    IfOk-weaker c.do_granted.result _ _ (λ (r : NvmReply) said. record {
      refused = λ x q. absurd (none-some x (sym c.in-Ok.ensures.granted ∙ q));
      answered = λ n.
          subst (λ m. IsAnswered front d (filled front d c.args.fill) m r.body.items r.meta.items r.completion old new) meta
          (subst (λ b. IsAnswered front d b c.in_ok-tuples.tuples.items r.body.items r.meta.items r.completion old new) body said);
    }) c.do_granted.ensures.answered

pub returns-clause-never : goal.returns-clause-never
returns-clause-never g c = IfOk-weaker c.do_granted.result _ _ (λ r said. said.never) c.do_granted.ensures.answered

pub returns-clause-medium : goal.returns-clause-medium
returns-clause-medium g c = IfOk-weaker c.do_granted.result _ _ (λ r said. said.medium) c.do_granted.ensures.answered

pub returns-clause-devices : goal.returns-clause-devices
returns-clause-devices g c =
    subst (λ ds. HasNamespaces ds (g.R.Rig.state c.do_granted.new.rig).standing (g.R.Rig.state c.do_granted.new.rig).units) (sym c.do_granted.ensures.front)
    (devices-kept c.args.front.now _ _ _ _ _ _ c.requires.devices (g.met.R.Rig.laid c.args.rig.now) (g.met.R.Rig.laid c.do_granted.new.rig) c.do_granted.ensures.stays.standing c.do_granted.ensures.stays.tells)
