use Rattle.std.proofs.Common.{drop, take, sym, ap, ◌∙◌, take-append-drop}
use Rattle.std.proofs.lemmas.List.{take_rest}
use Rattle.std.proofs.Math.Seq.{take-length}
use Rattle.pi_guard.specs.Register.{register}
use Rattle.pi_guard.specs.Windows.{window_register}
use Rattle.pi_guard.proofs.RegisterLemmas.{register-append}
use Rattle.pi_guard.proofs.vectors.after_many.Goals as goal

pub returns : goal.returns
unfolding window_register
returns c =
    let xs = c.args.part.now in
    let n = c.whole_window-at.result.1 in
    c.after_sixteens.ensures
    ∙ ap (register c.register_of_window-register.result) (take_rest xs n)
    ∙ ap (λ v. register v (drop n xs)) (c.register_of_window-register.ensures ∙ c.whole_window-at.ensures.1)
    ∙ sym (register-append c.args.start (take n xs) (drop n xs))
    ∙ ap (register c.args.start) (take-append-drop n xs)

pub returns-then-at-part : goal.returns-then-at-part
unfolding window_register
returns-then-at-part c =
    let xs = c.args.part.now in
    c.register_of_window-register.ensures ∙ c.whole_window-at.ensures.1
    ∙ ap (λ n. register c.args.start (take n xs)) c.if-at-part.true
    ∙ ap (register c.args.start) (take-length xs)
