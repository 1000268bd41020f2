use Rattle.std.proofs.Common.{arith, refl}
use Rattle.image_rig.proofs.Keeping.{appended, still_inside, still_keyed}
use Rattle.image_rig.proofs.log.Log.note.Goals as goal

pub invariant_of-self-clause-inside : goal.invariant_of-self-clause-inside
invariant_of-self-clause-inside c =
    still_inside c.args.self.now.labels.items c.kept_labels-labels.result.now c.args.self.now.moved.items c.moved-moved.result.now c.args.self.now.kept.items _ _ _ _
    c.put_all.ensures.items c.put_all-2.ensures.items c.put_last.ensures.items c.args.self.now.inside (omega arith) refl (omega arith) refl

pub returns-clause-recorded : goal.returns-clause-recorded
returns-clause-recorded c =
    rw (c.of.ensures, c.kept_labels-labels.ensures.value, c.moved-moved.ensures.value) at (appended c.args.self.now.labels.items c.kept_labels-labels.result.now c.args.self.now.moved.items c.moved-moved.result.now c.args.self.now.kept.items _ _ _ _
    c.put_all.ensures.items c.put_all-2.ensures.items c.put_last.ensures.items c.args.self.now.inside (omega arith) refl (omega arith) refl)

pub invariant_of-self-clause-keyed : goal.invariant_of-self-clause-keyed
invariant_of-self-clause-keyed c =
    still_keyed c.args.self.now.kept.items _ _ c.put_last.ensures.items c.args.self.now.keyed (rw c.of.ensures c.requires.key)
