use Rattle.std.proofs.Common.{◌≡◌, length, ap, sym, ◌∙◌}
use Rattle.nvme_command.proofs.Kept.{answered-as, kept-front}
use Rattle.nvme_command.proofs.session_doing.do_granted.Goals as goal

pub returns-clause-answered : goal.returns-clause-answered
returns-clause-answered g c =
    let b : length c.submit-completion.new.body ≡ c.args.body.len = c.submit-completion.auto.body ∙ ap length c.deref_mut.ensures.value ∙ sym c.args.body.ok.0 in
    let m : length c.submit-completion.new.meta ≡ c.args.meta.len = c.submit-completion.auto.meta ∙ ap length c.deref_mut-2.ensures.value ∙ sym c.args.meta.ok.0 in
    answered-as _ _ _ _ _ _ _ _ _ _ c.submit-completion.result _ _ _ _ c.deref_mut.ensures.value c.deref_mut-2.ensures.value
    (kept-front c.args.body.len c.submit-completion.new.body _ b) (kept-front c.args.meta.len c.submit-completion.new.meta _ m) c.reserve.ensures.keeps c.submit-completion.ensures.answered
