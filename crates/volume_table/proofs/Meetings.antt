-- Extents that share a block, by the test of their ends.
use Rattle.std.proofs.Common.{◌≡◌, ℕ, ◌+◌, ◌<◌, ◌≤◌, ◌↔◌, Bool, true, IsTrue, max, sym, ◌∙◌, arith}
use Rattle.std.proofs.lemmas.Bool.Decides.{nat_tests}
use Rattle.volume_table.specs.declared.extent.Extent.{Extent}
use Rattle.volume_table.specs.Faults.{do_meet}
use Rattle.volume_table.specs.Tables.{ShareBlock}

same_device : (a b : Extent) → do_meet a b ≡ true → a.dev ≡ b.dev
same_device a b h = grind (arith, nat_tests)

first_begins : (a b : Extent) → do_meet a b ≡ true → a.at < b.at + b.len
first_begins a b h = grind (arith, nat_tests)

second_begins : (a b : Extent) → do_meet a b ≡ true → b.at < a.at + a.len
second_begins a b h = grind (arith, nat_tests)

meets : (a b : Extent) (lba : ℕ) → a.dev ≡ b.dev → a.at ≤ lba → lba < a.at + a.len → b.at ≤ lba → lba < b.at + b.len → do_meet a b ≡ true
meets a b lba d p q r s = grind (arith, nat_tests)

pub shared : (a b : Extent) (t : Bool) → t ≡ do_meet a b → 1 ≤ a.len → 1 ≤ b.len → IsTrue t ↔ ShareBlock a b
shared a b t e la lb = (
  λ h.
      let m : do_meet a b ≡ true = sym e ∙ h in
      let p = first_begins a b m in
      let q = second_begins a b m in
      (same_device a b m, (max a.at b.at, (omega arith, omega arith), (omega arith, omega arith))),
  λ s. e ∙ meets a b s.1.0 s.0 s.1.1.0 s.1.1.1 s.1.2.0 s.1.2.1,
)
