use Rattle.std.proofs.Common.{arith, sym, ◌∙◌, ◌≡◌, true, false}
use Rattle.merge_queue.specs.Groups.{may_join}
use Rattle.merge_queue.proofs.Joins.{found, next-passed, next-failed}
use Rattle.merge_queue.proofs.group_index.GroupIndex.follower.Goals as goal
use Rattle.merge_queue.proofs.group_index.GroupIndex.follower.Goals.{then-joinable+else-left-eq0, else-joinable}

pub returns-then-left-eq0 : goal.returns-then-left-eq0
returns-then-left-eq0 c =
    let e : may_join c.args.lim.now c.args.self.now.groups c.args.i c.loop-j.j ≡ true = sym c.joinable.ensures ∙ c.if-joinable.true in
    sym (found (may_join c.args.lim.now c.args.self.now.groups c.args.i) c.loop-j.j c.behind-from.result.1 c.loop-j.left (omega arith) e c.if-left-eq0.true) ∙ c.loop-j.invariant.same

pub loop-j-preserved : goal.loop-j-preserved
loop-j-preserved c = elim c.if-joinable.branch [
  | then-joinable+else-left-eq0 w ↦
      let e : may_join c.args.lim.now c.args.self.now.groups c.args.i c.loop-j.j ≡ true = sym c.joinable.ensures ∙ w.if-joinable.true in
      let p = next-passed (may_join c.args.lim.now c.args.self.now.groups c.args.i) c.loop-j.j c.behind-from.result.1 c.loop-j.left (omega arith) e (omega (arith, w.if-left-eq0.false)) in
      rw w.left-is (record { same = p.same ∙ c.loop-j.invariant.same; within = p.within c.loop-j.invariant.within })
  | else-joinable w ↦
      let e : may_join c.args.lim.now c.args.self.now.groups c.args.i c.loop-j.j ≡ false = sym c.joinable.ensures ∙ w.if-joinable.false in
      let p = next-failed (may_join c.args.lim.now c.args.self.now.groups c.args.i) c.loop-j.j c.behind-from.result.1 c.loop-j.left (omega arith) e in
      rw w.left-is (record { same = p.same ∙ c.loop-j.invariant.same; within = p.within c.loop-j.invariant.within })
]
