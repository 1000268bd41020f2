use Rattle.std.proofs.Common.{ℕ, ◌+◌, ◌≤◌, ◌++◌, take, sym, ap, ◌∙◌, arith}
use Rattle.std.proofs.lemmas.Simd.{length-chunk}
use lib.Lanes.{chunk}
use Rattle.pi_guard.specs.Register.{register}
use Rattle.pi_guard.specs.Broad.{after_256, broad_owed_next, broad_register}
use Rattle.pi_guard.proofs.RegisterLemmas.{register-append}
use Rattle.pi_guard.proofs.Debts.{eight_more_32}
use Rattle.pi_guard.proofs.BroadDebts.{settled_256}
use Rattle.pi_guard.proofs.broad.last_window.Goals as goal

pub returns : goal.returns
unfolding broad_register after_256
returns c r o =
    let t = c.args.t in
    let xs = c.args.part.now in
    let at = c.args.at in
    let m = λ (k : ℕ). chunk (at + k) 32 xs in
    let long = λ (k : ℕ) (h : k + 32 ≤ 256). length-chunk (at + k) 32 xs (omega (arith, c.requires)) in
    let one = c.owed_to.ensures ∙ ap (λ v. broad_owed_next v t.b t.d t.e) o.far_a in
    let two = c.owed_to-2.ensures ∙ ap (λ v. broad_owed_next v t.c t.e t.f) o.far_b in
    let three = c.owed_to-3.ensures ∙ ap (λ v. broad_owed_next v t.d t.f t.g) o.far_c in
    rw (one, two, three, c.owed_to-4.ensures, c.owed_to-5.ensures, c.owed_to-6.ensures, c.owed_to-7.ensures, c.owed_to-8.ensures, c.far_on.ensures, c.far_on-2.ensures, c.far_on-3.ensures, c.far_on-4.ensures, c.far_on-5.ensures)
    (settled_256 (register r (take at xs)) o.a t.b t.c t.d t.e t.f t.g t.h (chunk at 32 xs) (m 32) (m 64) (m 96) (m 128) (m 160) (m 192) (m 224)
    o.long_a o.long_b o.long_c o.long_d o.long_e o.long_f o.long_g o.long_h
    (length-chunk at 32 xs (omega (arith, c.requires))) (long 32 (omega arith)) (long 64 (omega arith)) (long 96 (omega arith)) (long 128 (omega arith)) (long 160 (omega arith)) (long 192 (omega arith)) (long 224 (omega arith)) o.owed
    ∙ sym (register-append r (take at xs) (chunk at 32 xs ++ (m 32 ++ (m 64 ++ (m 96 ++ (m 128 ++ (m 160 ++ (m 192 ++ m 224))))))))
    ∙ ap (register r) (eight_more_32 at xs))
