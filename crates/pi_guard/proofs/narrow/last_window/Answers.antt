use Rattle.std.proofs.Common.{◌++◌, ◌+◌, take, sym, ap, ◌∙◌}
use lib.Lanes.{chunk}
use Rattle.pi_guard.specs.Register.{register}
use Rattle.pi_guard.specs.Trails.{owed}
use Rattle.pi_guard.proofs.RegisterLemmas.{register-append}
use Rattle.pi_guard.proofs.Debts.{four_more}
use Rattle.pi_guard.proofs.narrow.last_window.Goals as goal

pub returns : goal.returns
unfolding owed
returns c r h =
    let xs = c.args.part.now in
    let at = c.args.at in
    c.paid_window.ensures (register r (take at xs)) h
    ∙ sym (register-append r (take at xs) (chunk at 16 xs ++ (chunk (at + 16) 16 xs ++ (chunk (at + 32) 16 xs ++ chunk (at + 48) 16 xs))))
    ∙ ap (register r) (four_more at xs)
