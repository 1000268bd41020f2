-- Data with their guard behind them, as one message: its guard is 0.
use Rattle.std.proofs.Common.{◌≡◌, ◌≢◌, ℕ, ◌+◌, ◌-◌, ◌*◌, ◌/◌, ◌%◌, ◌<◌, Bool, true, false, eqb, if◌then◌else◌, List, [], ◌∷◌, ◌++◌, length, refl, ap, ◌∙◌, arith}
use Rattle.std.proofs.lemmas.Bool.{eqb-false, eqb-true, cond-false, ne_eqb}
use Rattle.pi_guard.specs.Guards.{checksum_of, guard_of, ip, word_sum}
use Rattle.pi_guard.specs.declared.GuardKind.{GuardKind}
use Rattle.pi_guard.specs.declared.GuardKind.TheVariants.{Crc, Ip}
use Rattle.guard_laws.specs.Guarded.{guarded}
use Rattle.guard_laws.proofs.Guarded.{guarded_clears, spelled}

-- a word behind an even number of bytes adds to their sum
sum-behind : (body : List ℕ) (h l : ℕ) → length body % 2 ≡ 0 → word_sum (body ++ (h ∷ l ∷ [])) ≡ word_sum body + (h * 256 + l)
sum-behind [] h l e = omega arith
sum-behind (x ∷ []) h l e = absurd (omega arith)
sum-behind (x ∷ y ∷ r) h l e = let rest = sum-behind r h l (omega arith) in omega arith

-- a sum with its checksum is all ones
whole : (s : ℕ) → checksum_of (s + checksum_of s) ≡ 0
whole s = by (eqb s 0) refl where
  some : s ≢ 0 → checksum_of (s + (65535 - ((s - 1) % 65535 + 1))) ≡ 0
  some n =
      let t = s + (65535 - ((s - 1) % 65535 + 1)) in
      let e : (t - 1) % 65535 ≡ 65534 = omega arith in
      let f : eqb t 0 ≡ false = ne_eqb t 0 (λ z. omega arith) in
      cond-false (eqb t 0) 65535 (65535 - ((t - 1) % 65535 + 1)) f ∙ ap (λ v. 65535 - (v + 1)) e

  by : (c : Bool) → eqb s 0 ≡ c → checksum_of (s + (if c then 65535 else 65535 - ((s - 1) % 65535 + 1))) ≡ 0
  by true e = let z = eqb-true s 0 e in rw z refl
  by false e = some (eqb-false s 0 e)

sum_small : (s : ℕ) → checksum_of s < 65536
sum_small s = by (eqb s 0) where
  by : (c : Bool) → (if c then 65535 else 65535 - ((s - 1) % 65535 + 1)) < 65536
  by true = omega arith
  by false = omega arith

sum_clears : (body : List ℕ) → length body % 2 ≡ 0 → ip (guarded body (ip body)) ≡ 0
unfolding ip
sum_clears body e =
    let g = checksum_of (word_sum body) in
    let small = sum_small (word_sum body) in
    let s : g / 256 * 256 + g % 256 ≡ g = omega arith in
    ap (λ v. checksum_of (word_sum (body ++ v))) (spelled g small)
    ∙ ap checksum_of (sum-behind body (g / 256) (g % 256) e ∙ ap (λ v. word_sum body + v) s)
    ∙ whole (word_sum body)

pub guard_clears : (kind : GuardKind) (body : List ℕ) → length body % 2 ≡ 0 → guard_of kind (guarded body (guard_of kind body)) ≡ 0
guard_clears Crc body e = guarded_clears body
guard_clears Ip body e = sum_clears body e
