use Rattle.std.proofs.Common.{◌++◌, sym, ap, ◌∙◌}
use Rattle.pi_guard.specs.Register.{register}
use Rattle.pi_guard.specs.Trails.{after_128}
use Rattle.pi_guard.specs.Broad.{four_owed}
use Rattle.pi_guard.proofs.RegisterLemmas.{register-append}
use Rattle.pi_guard.proofs.Debts.{none_owed_128}
use Rattle.pi_guard.proofs.quarters.trail_of.Goals as goal

pub returns : goal.returns
unfolding four_owed after_128
returns c =
    let x = c.args in
    let r = register 0 x.a in
    let s = register r x.b in
    c.next_trail.ensures (register s x.c) (c.next_trail-three.ensures s (c.next_trail-two.ensures r (c.next_trail-one.ensures 0 none_owed_128)))
    ∙ ap after_128 (sym (register-append s x.c x.d) ∙ sym (register-append r x.b (x.c ++ x.d)) ∙ sym (register-append 0 x.a (x.b ++ (x.c ++ x.d))))
