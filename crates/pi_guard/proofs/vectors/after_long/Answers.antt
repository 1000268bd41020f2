use Rattle.std.proofs.Common.{◌≡◌, ℕ, ◌-◌, List, length, drop, take, sym, ap, ◌∙◌, take-append-drop, arith}
use Rattle.std.proofs.lemmas.List.{length-drop, take_rest}
use Rattle.pi_guard.specs.Register.{register}
use Rattle.pi_guard.specs.Broad.{broad_register}
use Rattle.pi_guard.proofs.RegisterLemmas.{register-append}
use Rattle.pi_guard.proofs.vectors.after_long.Goals as goal

-- 256 bytes, and those behind them
cut : (r : ℕ) (xs : List ℕ) → register (register r (take 256 xs)) (take (length xs - 256) (drop 256 xs)) ≡ register r xs
cut r xs =
    ap (register (register r (take 256 xs))) (take_rest xs 256)
    ∙ sym (register-append r (take 256 xs) (drop 256 xs))
    ∙ ap (register r) (take-append-drop 256 xs)

pub loop-rest-init : goal.loop-rest-init
loop-rest-init c =
    let xs = c.args.part.now in
    let long = ap length (take_rest xs 256) ∙ length-drop 256 xs in
    (register c.args.start (take 256 xs), c.first_trail-t.ensures, cut c.args.start xs, omega (arith, long, c.requires))

pub loop-rest-preserved : goal.loop-rest-preserved
loop-rest-preserved c =
    let r = c.loop-rest.invariant.0 in
    let xs = c.loop-rest.rest.now in
    let long = ap length (take_rest xs 256) ∙ length-drop 256 xs in
    (register r (take 256 xs), c.trail_after_all-t.ensures r c.loop-rest.invariant.1, cut r xs ∙ c.loop-rest.invariant.2, omega (arith, long, c.loop-rest-test.true))

pub returns : goal.returns
unfolding broad_register
returns c =
    let r = c.loop-rest.invariant.0 in
    let xs = c.loop-rest.rest.now in
    c.after_short.ensures
    ∙ ap (λ v. register v (take (length xs - 256) (drop 256 xs))) (c.register_of_window-register.ensures ∙ c.last_window-w.ensures r c.loop-rest.invariant.1)
    ∙ cut r xs ∙ c.loop-rest.invariant.2
