use Rattle.std.proofs.Common.{◌≡◌, [], take, sym, ap, ◌∙◌, append-nil}
use Rattle.pi_guard.specs.Register.{register}
use Rattle.pi_guard.specs.Trails.{wide_owed, after_128}
use Rattle.pi_guard.proofs.Debts.{none_owed_128}
use Rattle.pi_guard.proofs.wide.first_trail.Goals as goal

pub returns : goal.returns
unfolding wide_owed after_128
returns c =
    let r = c.args.start in
    let xs = take 16 c.args.part.now in
    let e : register 0 c.with_register-first.result ≡ register r xs =
    ap (register 0) (sym (append-nil c.with_register-first.result)) ∙ c.with_register-first.ensures [] ∙ ap (register r) (append-nil xs) in
    c.trail_after-trail-7.ensures r (c.trail_after-trail-6.ensures r (c.trail_after-trail-5.ensures r (c.trail_after-trail-4.ensures r
    (c.trail_after-trail-3.ensures r (c.trail_after-trail-2.ensures r (c.trail_after-trail.ensures r (c.next_trail-trail.ensures 0 none_owed_128 ∙ ap after_128 e)))))))
