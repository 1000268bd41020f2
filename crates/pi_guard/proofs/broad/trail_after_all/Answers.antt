use Rattle.std.proofs.Common.{◌≡◌, ℕ, ◌+◌, take, subst, arith}
use Rattle.pi_guard.specs.declared.broad.Trail.{Trail}
use Rattle.pi_guard.specs.Register.{register}
use Rattle.pi_guard.specs.Broad.{Owes}
use Rattle.pi_guard.proofs.broad.trail_after_all.Goals as goal

pub returns : goal.returns
returns c r h =
    let xs = c.args.part.now in
    let at = c.args.at in
    let up = λ (t : Trail) (m n : ℕ) (e : m ≡ n) (o : Owes (register r (take m xs)) t). subst (λ k. Owes (register r (take k xs)) t) e o in
    let one = c.trail_after-t.ensures r h in
    let two = up c.trail_after-t-2.result (at + 32 + 32) (at + 64) (omega arith) (c.trail_after-t-2.ensures r one) in
    let three = up c.trail_after-t-3.result (at + 64 + 32) (at + 96) (omega arith) (c.trail_after-t-3.ensures r two) in
    let four = up c.trail_after-t-4.result (at + 96 + 32) (at + 128) (omega arith) (c.trail_after-t-4.ensures r three) in
    let five = up c.trail_after-t-5.result (at + 128 + 32) (at + 160) (omega arith) (c.trail_after-t-5.ensures r four) in
    let six = up c.trail_after-t-6.result (at + 160 + 32) (at + 192) (omega arith) (c.trail_after-t-6.ensures r five) in
    let seven = up c.trail_after-t-7.result (at + 192 + 32) (at + 224) (omega arith) (c.trail_after-t-7.ensures r six) in
    up c.trail_after-t-8.result (at + 224 + 32) (at + 256) (omega arith) (c.trail_after-t-8.ensures r seven)
