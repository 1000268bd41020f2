use Rattle.std.proofs.Common.{◌++◌, sym, ap, ◌∙◌, append_assoc}
use Rattle.pi_guard.specs.Register.{register}
use Rattle.pi_guard.specs.Broad.{four_owed, four_register}
use Rattle.pi_guard.proofs.RegisterLemmas.{register-append}
use Rattle.pi_guard.proofs.quarters.register_of_window.Goals as goal

pub returns : goal.returns
unfolding four_owed four_register
returns c =
    let x = c.args in
    let front = x.a ++ (x.b ++ (x.c ++ x.d)) in
    let back = x.e ++ (x.f ++ (x.g ++ x.h)) in
    c.register_of_four.ensures ∙ c.paid_window-w.ensures (register 0 front) c.trail_of-t.ensures
    ∙ sym (register-append 0 front back)
    ∙ ap (register 0) (append_assoc x.a (x.b ++ (x.c ++ x.d)) back ∙ ap (λ l. x.a ++ l) (append_assoc x.b (x.c ++ x.d) back ∙ ap (λ l. x.b ++ l) (append_assoc x.c x.d back)))
