-- What is listed for the medium has a sense of the medium.
use Rattle.std.proofs.Common.{ℕ, ◌≡◌, Bool, true, false, eqb, if◌then◌else◌, Option, Some, None, refl}
use Rattle.std.proofs.lemmas.Bool.{and_parts, eqb-true}
use Rattle.pi_tuple.specs.declared.checks.Check.{Check}
use Rattle.block_path.specs.Passed.{Sense}
use Rattle.stack_ops.specs.Passed.{IsMediumSense, Adapter, Medium, Refused, Target}
use Rattle.block_path.specs.Senses.{check_of, finding_of, is_medium, is_medium_why, why_ended, why_of}

medium_or : (t : Bool) (key asc ascq : ℕ) → is_medium_why (if t then Medium else Refused key asc ascq) ≡ true → t ≡ true
medium_or true key asc ascq h = refl
medium_or false key asc ascq h = absurd (cc)

layer_is_none : (t u : Bool) (c : Check) (s : Sense) → is_medium_why (why_of (if t then Some (Adapter c) else (if u then Some (Target c) else None)) s) ≡ true → is_medium s ≡ true
layer_is_none true u c s h = absurd (cc)
layer_is_none false true c s h = absurd (cc)
layer_is_none false false c s h = medium_or (is_medium s) s.key s.asc s.ascq h

finding_is_none : (key : ℕ) (c : Option Check) (s : Sense) → is_medium_why (why_of (finding_of key c) s) ≡ true → is_medium s ≡ true
finding_is_none key None s h = medium_or (is_medium s) s.key s.asc s.ascq h
finding_is_none key (Some c) s h = layer_is_none (eqb key 5) (eqb key 11) c s h

named_is_none : (t : Bool) (key : ℕ) (c : Option Check) (s : Sense) → is_medium_why (why_of (if t then finding_of key c else None) s) ≡ true → is_medium s ≡ true
named_is_none true key c s h = finding_is_none key c s h
named_is_none false key c s h = medium_or (is_medium s) s.key s.asc s.ascq h

pub medium_is : (sense : Option Sense) → is_medium_why (why_ended sense) ≡ true → IsMediumSense sense
medium_is None h = absurd (cc)
medium_is (Some s) h =
    let m : is_medium s ≡ true = named_is_none (eqb s.asc 0x10) s.key (check_of s.ascq) s h in
    eqb-true s.key 3 (and_parts (eqb s.key 3) _ m).0
