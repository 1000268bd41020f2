use Rattle.std.proofs.Common.{sym, subst}
use Rattle.dix_base.specs.Told.{HasLength}
use Rattle.image_rig.proofs.Heads.{head_told}
use Rattle.image_rig.proofs.looking.read_head.Goals as goal

pub returns-clause-head : goal.returns-clause-head
returns-clause-head g c = head_told c.args.size c.min-have.result c.in_ok-first.first (g.S.Store.state c.args.store.now).bytes c.min-have.ensures
    (subst (λ n. HasLength n (g.S.Store.state c.args.store.now).bytes) (sym c.requires) (g.met.S.Store.told c.args.store.now)) c.in_ok-first.ensures.read
