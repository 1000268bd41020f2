use Rattle.std.proofs.Common.{subst}
use Rattle.rig_api.specs.Head.{IsHeadOf}
use Rattle.image_rig.specs.Heads.{HasLooked, head_in}
use Rattle.image_rig.proofs.Heads.{has_judged, has_looked}
use Rattle.image_rig.proofs.looking.look.Goals as goal

pub returns-clause-head : goal.returns-clause-head
returns-clause-head g c = has_judged c.judged.result (head_in c.args.head.now) (head_in c.in-Ok-read_head.read) (g.S.Store.state c.args.store.now).bytes c.judged.ensures.judges
    (subst (IsHeadOf (head_in c.in-Ok-read_head.read)) c.open.ensures.same c.in-Ok-read_head.ensures.head)

pub returns-clause-looked : goal.returns-clause-looked
returns-clause-looked g c = subst (λ n. HasLooked c.judged.result n (g.S.Store.state c.args.store.now) (g.S.Store.state c.read_head.new.store)) c.in-Ok.ensures.ok
    (has_looked c.judged.result _ (g.S.Store.state c.args.store.now) (g.S.Store.state c.open.new.self) (g.S.Store.state c.read_head.new.store) c.judged.ensures.judges c.open.ensures.same c.open.ensures.opened c.read_head.ensures.stays)
