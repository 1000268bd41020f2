use Rattle.std.proofs.Common.{take, ap, ◌∙◌, sym}
use Rattle.std.proofs.lemmas.List.{take_at, drop_at}
use Rattle.nvme_front.proofs.Sending.{with-lists}
use Rattle.nvme_front.proofs.front.send.Goals as goal

pub returns-clause-exchanged : goal.returns-clause-exchanged
returns-clause-exchanged g c =
    with-lists c.args.dev c.args.cdb.now _ _ _ _ _ _ c.exchange.result _ _
    c.split_at_mut-out.ensures.front
    (c.split_at_mut-into.ensures.front ∙ ap (take c.args.room) c.split_at_mut-out.ensures.back)
    (sym (ap (take c.args.room) (drop_at c.split_at_mut-out.result.0.now _ c.args.sent c.split_at_mut-out.ensures.front_len) ∙ take_at c.exchange.new.into _ c.args.room (c.exchange.auto.into ∙ c.split_at_mut-into.ensures.front_len)))
    c.exchange.ensures.exchanged
