use Rattle.std.specs.Prelude.{ℕ, Bool, true, false, not, eqb, ◌&&◌, ◌||◌, if◌then◌else◌, List, [], ◌∷◌, Option, Some, None, bit_and}
use Rattle.pi_tuple.specs.Tuples.{ref_tag}
use Rattle.pi_tuple.specs.declared.tuple.Tuple.{Tuple}
use Rattle.pi_tuple.specs.declared.checks.PiType.{PiType}
use Rattle.pi_tuple.specs.declared.checks.PiType.TheVariants.{Zero, One, Two, Three}
use Rattle.pi_tuple.specs.declared.checks.Checks.{Checks}
use Rattle.pi_tuple.specs.declared.checks.Check.{Check}
use Rattle.pi_tuple.specs.declared.checks.Check.TheVariants.{Guard, AppTag, RefTag}

-- the tuples of this type that aren't checked (SBC-3, 4.22.3)
abbrev pub is_escaped : PiType → Tuple → Bool
is_escaped Zero t = false
is_escaped One t = eqb t.app 0xFFFF
is_escaped Two t = eqb t.app 0xFFFF
is_escaped Three t = eqb t.app 0xFFFF && eqb t.rtag 0xFFFF_FFFF

-- a type whose reference tag binds a block to an LBA (SBC-3, 4.22.2)
abbrev pub has_ref_tag : PiType → Bool
has_ref_tag Zero = false
has_ref_tag One = true
has_ref_tag Two = true
has_ref_tag Three = false

-- the reference tag that is given to a block at this LBA: in a type without one it is 0
abbrev pub own_tag : PiType → ℕ → ℕ
own_tag ty lba = if has_ref_tag ty then ref_tag lba else 0

-- a type without protection
abbrev pub is_zero : PiType → Bool
is_zero Zero = true
is_zero One = false
is_zero Two = false
is_zero Three = false

-- a check with whether it is asked for and differs
pub record Asked : Type 0 where
  pub check : Check
  pub differs : Bool

-- the checks in their order
abbrev pub asked_of : PiType → Checks → ℕ → ℕ → Tuple → List Asked
asked_of ty what want guard t =
    record { check = Guard; differs = what.guard && not (eqb t.guard guard) }
    ∷ record { check = AppTag; differs = not (eqb (bit_and t.app what.mask) (bit_and what.app what.mask)) }
    ∷ record { check = RefTag; differs = what.rtag && (has_ref_tag ty && not (eqb t.rtag want)) }
    ∷ []

-- the first that differs
abbrev pub first_of : List Asked → Option Check
first_of [] = None
first_of (a ∷ rest) = if a.differs then Some a.check else first_of rest

-- what a tuple is found to differ in: nothing for type 0 and for an escape, else the first check that is asked for and differs
abbrev pub finding : PiType → Checks → ℕ → ℕ → Tuple → Option Check
finding ty what want guard t = if is_zero ty || is_escaped ty t then None else first_of (asked_of ty what want guard t)
