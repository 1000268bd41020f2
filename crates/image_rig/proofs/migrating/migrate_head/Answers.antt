use Rattle.std.proofs.Common.{◌≡◌, ap, ◌∙◌, arith}
use Rattle.rig_api.specs.Head.{units_of}
use Rattle.rig_api.proofs.HeadLaws.{right_layout}
use Rattle.rig_api.specs.Headers.{is_layout}
use Rattle.image_rig.specs.Heads.{head_in}
use Rattle.image_rig.proofs.Heads.{right_head}
use Rattle.image_rig.proofs.Migrates.{keeps_units}
use Rattle.image_rig.proofs.migrating.migrate_head.Goals as goal

pub write_header-requires-clause-long : goal.write_header-requires-clause-long
write_header-requires-clause-long g c =
    let r = right_head (head_in c.args.head.now) c.requires.right in
    omega (arith, r.size, c.requires.size)

pub returns-in_ok-write_header-in-Some-First-clause-stored : goal.returns-in_ok-write_header-in-Some-First-clause-stored
returns-in_ok-write_header-in-Some-First-clause-stored g c =
    let h = head_in c.args.head.now in
    let us : c.deref.result.now ≡ units_of h = c.deref.ensures.0 ∙ c.units-units.ensures in
    keeps_units c.deref.result.now h (g.S.Store.state c.args.store.now).bytes (g.S.Store.state c.write_header.new.store).bytes (ap is_layout us ∙ right_layout h c.requires.right) us c.requires.told
    c.in_ok-write_header-in-Some-First.ensures.written
