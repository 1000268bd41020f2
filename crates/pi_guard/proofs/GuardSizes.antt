-- Each guard fits in two bytes.
use Rattle.std.proofs.Common.{List, ℕ, ◌<◌, ◌^◌, lit<, Bool, if◌then◌else◌, ◌-◌, ◌%◌, ◌+◌, true, arith, false, eqb}
use Rattle.pi_guard.specs.Guards.{crc, ip, word_sum, guard_of}
use Rattle.pi_guard.proofs.RegisterLemmas.{crc-register, register-lt}
use Rattle.pi_guard.specs.declared.GuardKind.{GuardKind}
use Rattle.pi_guard.specs.declared.GuardKind.TheVariants.{Crc, Ip}

-- a guard has sixteen bits
pub crc_below : (bytes : List ℕ) → crc bytes < 2 ^ 16
crc_below bytes = rw (crc-register bytes) (register-lt 0 bytes (lit< tt))

pub sum_below : (c : Bool) (n : ℕ) → (if c then 65535 else 65535 - (n % 65535 + 1)) < 2 ^ 16
sum_below true n = omega arith
sum_below false n = omega arith

pub ip_below : (bytes : List ℕ) → ip bytes < 2 ^ 16
unfolding ip
ip_below bytes = sum_below (eqb (word_sum bytes) 0) (word_sum bytes - 1)

pub guard_below : (kind : GuardKind) (bytes : List ℕ) → guard_of kind bytes < 2 ^ 16
guard_below Crc bytes = crc_below bytes
guard_below Ip bytes = ip_below bytes
