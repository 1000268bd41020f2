use Rattle.std.proofs.Common.{◌++◌, ap, ◌∙◌}
use lib.Lanes.{chunk}
use Rattle.pi_guard.specs.Register.{register}
use Rattle.pi_guard.specs.Windows.{window_register}
use Rattle.pi_guard.proofs.Debts.{four_more}
use Rattle.pi_guard.proofs.narrow.first_window.Goals as goal

pub returns : goal.returns
unfolding window_register
returns c =
    let xs = c.args.part.now in
    c.with_register.ensures (chunk 16 16 xs ++ (chunk 32 16 xs ++ chunk 48 16 xs)) ∙ ap (register c.args.start) (four_more 0 xs)
