-- What passes a check of guard, application tag and reference tag in type 1, and what doesn't.
use Rattle.std.proofs.Common.{◌≡◌, ℕ, Bool, true, false, ◌&&◌, eqb, not, if◌then◌else◌, List, Option, Some, None, refl, sym, ◌∙◌}
use Rattle.std.specs.Prelude.{bit_and, Result, Ok, Err}
use Rattle.std.specs.Int.Bits.{and_zero_r}
use Rattle.std.proofs.lemmas.Bool.{and_from, and_parts, eq-eqb, eqb-true, false≢true}
use Rattle.pi_tuple.specs.Finds.{finding, is_escaped}
use Rattle.pi_tuple.specs.declared.tuple.Tuple.{Tuple}
use Rattle.pi_tuple.specs.declared.checks.PiType.TheVariants.{One}
use Rattle.pi_tuple.specs.declared.checks.Check.{Check}
use Rattle.pi_tuple.specs.declared.checks.Check.TheVariants.{AppTag, Guard, RefTag}
use Rattle.integrity_payload.specs.Payloads.{all_asked}
use Rattle.walk_laws.specs.Passed.{unless}
use Rattle.walk_laws.specs.Detectable.{bears, if_passed}

pub record IsFound (o : Option Check) : Type 0 where
  pub check : Check
  pub is : o ≡ Some check

pub record Bears (t : Tuple) (g r : ℕ) : Type 0 where
  pub guard : t.guard ≡ g
  pub rtag : t.rtag ≡ r

abbrev pub expected : (app mask : ℕ) → Tuple → Bool
expected app mask t = eqb (bit_and t.app mask) (bit_and app mask)

pub unmasked : (app : ℕ) (t : Tuple) → expected app 0 t ≡ true
unmasked app t = eq-eqb _ _ (and_zero_r t.app ∙ sym (and_zero_r app))

-- the three checks, by whether each field is the wanted one
abbrev three : (skip guard app rtag : Bool) → Option Check
three skip g a r = if skip then None else (if not g then Some Guard else (if not a then Some AppTag else (if not r then Some RefTag else None)))

is_three : (app mask want guard : ℕ) (t : Tuple) → finding One (all_asked app mask) want guard t ≡ three (is_escaped One t) (eqb t.guard guard) (expected app mask t) (eqb t.rtag want)
is_three app mask want guard t = refl

passes_three : (s g a r : Bool) → s ≡ false → three s g a r ≡ None → ((g && r) && a) ≡ true
passes_three true g a r e h = absurd (false≢true (sym e))
passes_three false true true true e h = refl
passes_three false true true false e h = cc
passes_three false true false r e h = cc
passes_three false false a r e h = cc

-- what passes bears guard and tag, and its application tag is the expected one
pub passed : (app mask want guard : ℕ) (t : Tuple) → is_escaped One t ≡ false → finding One (all_asked app mask) want guard t ≡ None → (bears t guard want && expected app mask t) ≡ true
passed app mask want guard t e h = passes_three (is_escaped One t) (eqb t.guard guard) (expected app mask t) (eqb t.rtag want) e (sym (is_three app mask want guard t) ∙ h)

three_finds : (s g a r : Bool) → s ≡ false → ((g && r) && a) ≡ false → IsFound (three s g a r)
three_finds true g a r e h = absurd (false≢true (sym e))
three_finds false true true true e h = absurd (false≢true (sym h))
three_finds false true true false e h = record { check = RefTag; is = refl }
three_finds false true false r e h = record { check = AppTag; is = refl }
three_finds false false a r e h = record { check = Guard; is = refl }

-- what isn't so is found
pub is_found : (app mask want guard : ℕ) (t : Tuple) → is_escaped One t ≡ false → (bears t guard want && expected app mask t) ≡ false → IsFound (finding One (all_asked app mask) want guard t)
is_found app mask want guard t e h = three_finds (is_escaped One t) (eqb t.guard guard) (expected app mask t) (eqb t.rtag want) e h

three_none : (s g a r : Bool) → (g && r) ≡ true → a ≡ true → three s g a r ≡ None
three_none true g a r h k = refl
three_none false true true true h k = refl
three_none false true false r h k = absurd (false≢true k)
three_none false true true false h k = absurd (false≢true h)
three_none false false a r h k = absurd (false≢true h)

-- what is so passes
pub passes_if : (app mask want guard : ℕ) (t : Tuple) → bears t guard want ≡ true → expected app mask t ≡ true → finding One (all_asked app mask) want guard t ≡ None
passes_if app mask want guard t h k = three_none (is_escaped One t) (eqb t.guard guard) (expected app mask t) (eqb t.rtag want) h k

pub from_both : (t : Tuple) (g r : ℕ) → Bears t g r → bears t g r ≡ true
from_both t g r h = and_from (eqb t.guard g) (eqb t.rtag r) (eq-eqb t.guard g h.guard) (eq-eqb t.rtag r h.rtag)

pub bears_both : (t : Tuple) (guard rtag : ℕ) → bears t guard rtag ≡ true → Bears t guard rtag
bears_both t guard rtag h =
    let p = and_parts (eqb t.guard guard) (eqb t.rtag rtag) h in
    record { guard = eqb-true t.guard guard p.0; rtag = eqb-true t.rtag rtag p.1 }

pub found_something : {o : Option Check} → IsFound o → o ≡ None → ⊥
found_something h e = let k = h.is in cc

-- either it ends or it goes on
pub unless_rule : {X : Type 0} (P : X → Type 0) (k : Result (List ℕ) Check → X) (o : Option Check) (frame : List ℕ) → ((c : Check) → P (k (Err c))) → (o ≡ None → P (k (Ok frame))) → P (k (unless o frame))
unless_rule P k None frame ends goes = goes refl
unless_rule P k (Some c) frame ends goes = ends c

-- what is asked of a frame that passed
pub asked_on : (o : Option Check) (rest : Bool) → o ≡ None → if_passed o rest ≡ true → rest ≡ true
asked_on None rest e h = h
asked_on (Some c) rest e h = cc
