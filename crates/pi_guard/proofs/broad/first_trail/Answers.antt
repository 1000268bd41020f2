use Rattle.std.proofs.Common.{◌≡◌, ℕ, [], ◌+◌, ◌≤◌, ◌++◌, length, drop, take, replicate, sym, ap, ◌∙◌, arith, append-nil, length-append}
use Rattle.std.specs.Prelude.{bit_xor}
use Rattle.std.proofs.lemmas.Simd.{length-chunk, length-zip2}
use lib.Lanes.{zip2, chunk}
use Rattle.pi_guard.specs.Register.{register}
use Rattle.pi_guard.specs.Broad.{after_256, broad_owed_by}
use Rattle.pi_guard.proofs.Windows.{more}
use Rattle.pi_guard.proofs.Alignments.{between, past_two}
use Rattle.pi_guard.proofs.BroadDebts.{begun}
use Rattle.pi_guard.proofs.broad.first_trail.Goals as goal

pub returns : goal.returns
unfolding after_256
returns c =
    let r = c.args.start in
    let xs = c.args.part.now in
    let a = c.with_register-a.result in
    let p = λ (k : ℕ). chunk k 32 xs in
    let long = λ (k : ℕ) (h : k + 32 ≤ 256). length-chunk k 32 xs (omega (arith, c.requires)) in
    let la : length a ≡ 32 = c.with_register-a.ensures.rest.0 in
    let behind : drop 2 a ≡ drop 2 (p 0) = c.with_register-a.ensures.rest.1 in
    let near : chunk 16 32 (a ++ p 32) ≡ p 16 = past_two 14 32 a (p 0) (p 32) la (long 0 (omega arith)) behind ∙ between 16 0 xs (omega arith) in
    let far : chunk 4 32 (a ++ p 32) ≡ p 4 = past_two 2 32 a (p 0) (p 32) la (long 0 (omega arith)) behind ∙ between 4 0 xs (omega arith) in
    let front : register 0 a ≡ register r (take 32 xs) =
    ap (register 0) (sym (append-nil a)) ∙ c.with_register-a.ensures.sum [] ∙ ap (register r) (append-nil (p 0)) in
    let all : register (register (register (register (register (register (register (register 0 a) (p 32)) (p 64)) (p 96)) (p 128)) (p 160)) (p 192)) (p 224) ≡ register r (take 256 xs) =
    ap (λ v. register (register (register (register (register (register (register v (p 32)) (p 64)) (p 96)) (p 128)) (p 160)) (p 192)) (p 224)) front
    ∙ ap (λ v. register (register (register (register (register (register v (p 64)) (p 96)) (p 128)) (p 160)) (p 192)) (p 224)) (more 32 r 32 xs)
    ∙ ap (λ v. register (register (register (register (register v (p 96)) (p 128)) (p 160)) (p 192)) (p 224)) (more 32 r 64 xs)
    ∙ ap (λ v. register (register (register (register v (p 128)) (p 160)) (p 192)) (p 224)) (more 32 r 96 xs)
    ∙ ap (λ v. register (register (register v (p 160)) (p 192)) (p 224)) (more 32 r 128 xs)
    ∙ ap (λ v. register (register v (p 192)) (p 224)) (more 32 r 160 xs)
    ∙ ap (λ v. register v (p 224)) (more 32 r 192 xs)
    ∙ more 32 r 224 xs in
    let z = replicate {A = ℕ} 32 0 in
    let e6 : chunk 16 32 (a ++ p 32) ≡ p 16 = near in
    let e7 : chunk 16 32 (p 32 ++ p 64) ≡ p 48 = between 16 32 xs (omega arith) in
    let e8 : chunk 16 32 (p 64 ++ p 96) ≡ p 80 = between 16 64 xs (omega arith) in
    let sum : broad_owed_by (a ++ (p 32 ++ (p 64 ++ (p 96 ++ (zip2 bit_xor (p 128) c.half_on.result ++ (zip2 bit_xor (p 160) (p 16) ++ (zip2 bit_xor (p 192) (p 48)
    ++ zip2 bit_xor (p 224) (zip2 bit_xor (p 80) (zip2 bit_xor a c.far_on.result))))))))) ≡ after_256 (register r (take 256 xs)) =
    rw (c.half_on.ensures, c.far_on.ensures, ← e6, ← e7, ← e8)
    (begun a (p 32) (p 64) (p 96) (p 128) (p 160) (p 192) (p 224) la (long 32 (omega arith)) (long 64 (omega arith)) (long 96 (omega arith)) (long 128 (omega arith)) (long 160 (omega arith)) (long 192 (omega arith)) (long 224 (omega arith))
    ∙ ap after_256 all) in
    let added = λ (k j : ℕ) (h : k + 32 ≤ 256) (i : j + 32 ≤ 256). length-zip2 bit_xor (p k) (p j) (long k h ∙ sym (long j i)) ∙ long k h in
    let lhalf : length c.half_on.result ≡ 32 = ap length c.half_on.ensures ∙ length-chunk 16 32 (z ++ a) (omega (arith, length-append z a)) in
    let lfar : length c.far_on.result ≡ 32 = ap length c.far_on.ensures ∙ length-chunk 4 32 (z ++ a) (omega (arith, length-append z a)) in
    let two = length-zip2 bit_xor a c.far_on.result (la ∙ sym lfar) ∙ la in
    let three = length-zip2 bit_xor (p 80) (zip2 bit_xor a c.far_on.result) (long 80 (omega arith) ∙ sym two) ∙ long 80 (omega arith) in
    record {
      a = a;
      long_a = la;
      long_b = long 32 (omega arith);
      long_c = long 64 (omega arith);
      long_d = long 96 (omega arith);
      long_e = length-zip2 bit_xor (p 128) c.half_on.result (long 128 (omega arith) ∙ sym lhalf) ∙ long 128 (omega arith);
      long_f = added 160 16 (omega arith) (omega arith);
      long_g = added 192 48 (omega arith) (omega arith);
      long_h = length-zip2 bit_xor (p 224) (zip2 bit_xor (p 80) (zip2 bit_xor a c.far_on.result)) (long 224 (omega arith) ∙ sym three) ∙ long 224 (omega arith);
      far_a = sym far;
      far_b = sym (between 4 32 xs (omega arith));
      far_c = sym (between 4 64 xs (omega arith));
      owed = sum;
    }
