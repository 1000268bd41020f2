use Rattle.std.proofs.Common.{arith, ap, ◌≡◌, ◌∙◌}
use Rattle.std.specs.Prelude.{if◌then◌else◌}
use Rattle.merge_queue.specs.Groups.{may_join}
use Rattle.merge_queue.proofs.Counts.{pair-within}
use Rattle.merge_queue.proofs.group_index.GroupIndex.links_of_two.Goals as goal

pub overflow_sub-result : goal.overflow_sub-result
overflow_sub-result c =
    let a : c.as_number-there.result ≡ (if may_join c.args.lim.now c.args.self.now.groups c.args.i c.args.j then 1 else 0) = c.as_number-there.ensures ∙ ap (λ b. if b then 1 else 0) c.joinable.ensures in
    let b : c.as_number-back.result ≡ (if may_join c.args.lim.now c.args.self.now.groups c.args.j c.args.i then 1 else 0) = c.as_number-back.ensures ∙ ap (λ b. if b then 1 else 0) c.joinable-2.ensures in
    let p = pair-within c.args.lim.now c.args.self.now.groups c.args.i c.args.j c.requires.first c.requires.second c.requires.other in
    omega (arith, c.links.ensures.count)

pub returns : goal.returns
returns c =
    let a : c.as_number-there.result ≡ (if may_join c.args.lim.now c.args.self.now.groups c.args.i c.args.j then 1 else 0) = c.as_number-there.ensures ∙ ap (λ b. if b then 1 else 0) c.joinable.ensures in
    let b : c.as_number-back.result ≡ (if may_join c.args.lim.now c.args.self.now.groups c.args.j c.args.i then 1 else 0) = c.as_number-back.ensures ∙ ap (λ b. if b then 1 else 0) c.joinable-2.ensures in
    let p = pair-within c.args.lim.now c.args.self.now.groups c.args.i c.args.j c.requires.first c.requires.second c.requires.other in
    omega (arith, c.links.ensures.count, c.links-2.ensures.count)
