-- What the first byte says of the format that a sense is written in.
use Rattle.std.proofs.Common.{◌≡◌, ℕ, ◌<◌, ◌^◌, Bool, true, false, if◌then◌else◌, ltb, List, ◌∷◌, get_or, Option, Some, None, IfSome, refl, sym, ap, ◌∙◌, arith}
use Rattle.std.proofs.lemmas.Bool.Decides.{nat_tests}
use Rattle.sense_codes.specs.declared.Sense.{Sense}
use Rattle.sense_codes.specs.Written.{Fits, descriptor, fixed, written, written_with}

other_code : (bs xs : List ℕ) (x y : ℕ) → get_or bs 0 0 ≡ x → bs ≡ y ∷ xs → (x ≡ y → ⊥) → ⊥
other_code bs xs x y at e differs = differs (sym at ∙ ap (λ v. get_or v 0 0) e)

in_70_not : (bs : List ℕ) (r : Option Sense) (s : Sense) (info : ℕ) (b : Bool) → get_or bs 0 0 ≡ 0x70 → bs ≡ (if b then fixed 0xF0 info s else descriptor info s) → r ≡ Some s
in_70_not bs r s info true at e = absurd (other_code bs _ 0x70 0xF0 at e (λ h. omega arith))
in_70_not bs r s info false at e = absurd (other_code bs _ 0x70 0x72 at e (λ h. omega arith))

in_70 : (bs : List ℕ) (r : Option Sense) (s : Sense) (i : Option ℕ) → get_or bs 0 0 ≡ 0x70 →
    ((response info : ℕ) → info < 2 ^ 32 → bs ≡ fixed response info s → s.info ≡ None → r ≡ Some s) →
    s.info ≡ i → bs ≡ written_with i s → r ≡ Some s
in_70 bs r s None at reads ei e = reads 0x70 0 (omega arith) e ei
in_70 bs r s (Some info) at reads ei e = in_70_not bs r s info (ltb info (2 ^ 32)) at e

pub told_70 : (bs : List ℕ) (r : Option Sense) → get_or bs 0 0 ≡ 0x70 →
    ((s : Sense) (response info : ℕ) → info < 2 ^ 32 → bs ≡ fixed response info s → s.info ≡ None → r ≡ Some s) →
    (s : Sense) → Fits s → bs ≡ written s → r ≡ Some s
told_70 bs r at reads s fits e = in_70 bs r s s.info at (reads s) refl e

in_F0_some : (bs : List ℕ) (r : Option Sense) (s : Sense) (info : ℕ) (b : Bool) → ltb info (2 ^ 32) ≡ b → get_or bs 0 0 ≡ 0xF0 →
    ((response k : ℕ) → k < 2 ^ 32 → bs ≡ fixed response k s → s.info ≡ Some k → r ≡ Some s) →
    s.info ≡ Some info → bs ≡ (if b then fixed 0xF0 info s else descriptor info s) → r ≡ Some s
in_F0_some bs r s info true test at reads ei e = reads 0xF0 info (grind (arith, nat_tests)) e ei
in_F0_some bs r s info false test at reads ei e = absurd (other_code bs _ 0xF0 0x72 at e (λ h. omega arith))

in_F0 : (bs : List ℕ) (r : Option Sense) (s : Sense) (i : Option ℕ) → get_or bs 0 0 ≡ 0xF0 →
    ((response info : ℕ) → info < 2 ^ 32 → bs ≡ fixed response info s → s.info ≡ Some info → r ≡ Some s) →
    s.info ≡ i → bs ≡ written_with i s → r ≡ Some s
in_F0 bs r s None at reads ei e = absurd (other_code bs _ 0xF0 0x70 at e (λ h. omega arith))
in_F0 bs r s (Some info) at reads ei e = in_F0_some bs r s info (ltb info (2 ^ 32)) refl at reads ei e

pub told_F0 : (bs : List ℕ) (r : Option Sense) → get_or bs 0 0 ≡ 0xF0 →
    ((s : Sense) (response info : ℕ) → info < 2 ^ 32 → bs ≡ fixed response info s → s.info ≡ Some info → r ≡ Some s) →
    (s : Sense) → Fits s → bs ≡ written s → r ≡ Some s
told_F0 bs r at reads s fits e = in_F0 bs r s s.info at (reads s) refl e

in_72_some : (bs : List ℕ) (r : Option Sense) (s : Sense) (info : ℕ) (b : Bool) → info < 2 ^ 64 → get_or bs 0 0 ≡ 0x72 →
    ((k : ℕ) → k < 2 ^ 64 → bs ≡ descriptor k s → s.info ≡ Some k → r ≡ Some s) →
    s.info ≡ Some info → bs ≡ (if b then fixed 0xF0 info s else descriptor info s) → r ≡ Some s
in_72_some bs r s info true fits at reads ei e = absurd (other_code bs _ 0x72 0xF0 at e (λ h. omega arith))
in_72_some bs r s info false fits at reads ei e = reads info fits e ei

in_72 : (bs : List ℕ) (r : Option Sense) (s : Sense) (i : Option ℕ) → IfSome i (λ k. k < 2 ^ 64) → get_or bs 0 0 ≡ 0x72 →
    ((info : ℕ) → info < 2 ^ 64 → bs ≡ descriptor info s → s.info ≡ Some info → r ≡ Some s) →
    s.info ≡ i → bs ≡ written_with i s → r ≡ Some s
in_72 bs r s None fits at reads ei e = absurd (other_code bs _ 0x72 0x70 at e (λ h. omega arith))
in_72 bs r s (Some info) fits at reads ei e = in_72_some bs r s info (ltb info (2 ^ 32)) fits at reads ei e

pub told_72 : (bs : List ℕ) (r : Option Sense) → get_or bs 0 0 ≡ 0x72 →
    ((s : Sense) (info : ℕ) → info < 2 ^ 64 → bs ≡ descriptor info s → s.info ≡ Some info → r ≡ Some s) →
    (s : Sense) → Fits s → bs ≡ written s → r ≡ Some s
told_72 bs r at reads s fits e = in_72 bs r s s.info fits.info at (reads s) refl e
