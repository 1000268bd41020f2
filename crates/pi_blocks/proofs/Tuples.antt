-- A tuple is read back as it was written, also after its tag is mapped.
use Rattle.std.proofs.Common.{◌≡◌, ℕ, Bool, true, false, not, ◌&&◌, eqb, if◌then◌else◌, List, [], ◌∷◌, ◌++◌, length, take, drop, Option, Some, None, refl, ap, ◌∙◌, sym, inl, inr, arith}
use Rattle.std.specs.Prelude.{bit_and}
use Rattle.std.specs.Int.{w32, from_be_bytes, to_be_bytes}
use Rattle.std.proofs.lemmas.Bool.{and_left, cases_Bool, eq-eqb}
use Rattle.std.proofs.lemmas.List.{take-append-drop}
use Rattle.std.proofs.lemmas.Nat.{from_be_bytes-to_be_bytes_4}
use Rattle.pi_tuple.specs.declared.tuple.Tuple.{Tuple}
use Rattle.pi_tuple.specs.declared.checks.PiType.{PiType}
use Rattle.pi_tuple.specs.declared.checks.PiType.TheVariants.{Zero, One, Two, Three}
use Rattle.pi_tuple.specs.declared.checks.Check.{Check}
use Rattle.pi_tuple.specs.declared.checks.Check.TheVariants.{Guard, AppTag, RefTag}
use Rattle.pi_tuple.specs.declared.checks.Checks.{Checks}
use Rattle.pi_tuple.specs.Finds.{finding, has_ref_tag}
use Rattle.pi_tuple.specs.Tuples.{ref_tag, tuple_in}
use Rattle.pi_tuple.proofs.TupleLaws.{tag_below, same_fields}
use Rattle.ref_remap.specs.Remapped.{remapped, remapped_bytes}

as_eight : (P : List ℕ → Type 0) → ((a b c d e f g h : ℕ) → P (a ∷ b ∷ c ∷ d ∷ e ∷ f ∷ g ∷ h ∷ [])) → (bytes : List ℕ) → length bytes ≡ 8 → P bytes
as_eight P p [] l = absurd (omega arith)
as_eight P p (a ∷ []) l = absurd (omega arith)
as_eight P p (a ∷ b ∷ []) l = absurd (omega arith)
as_eight P p (a ∷ b ∷ c ∷ []) l = absurd (omega arith)
as_eight P p (a ∷ b ∷ c ∷ d ∷ []) l = absurd (omega arith)
as_eight P p (a ∷ b ∷ c ∷ d ∷ e ∷ []) l = absurd (omega arith)
as_eight P p (a ∷ b ∷ c ∷ d ∷ e ∷ f ∷ []) l = absurd (omega arith)
as_eight P p (a ∷ b ∷ c ∷ d ∷ e ∷ f ∷ g ∷ []) l = absurd (omega arith)
as_eight P p (a ∷ b ∷ c ∷ d ∷ e ∷ f ∷ g ∷ h ∷ []) l = p a b c d e f g h
as_eight P p (a ∷ b ∷ c ∷ d ∷ e ∷ f ∷ g ∷ h ∷ i ∷ r) l = absurd (omega arith)

remapped_or : (t : Bool) (to : ℕ) (bytes : List ℕ) → length bytes ≡ 8 →
    tuple_in (take 4 bytes ++ (if t then to_be_bytes w32 (ref_tag to) else drop 4 bytes)) ≡ (if t then record { guard = (tuple_in bytes).guard; app = (tuple_in bytes).app; rtag = ref_tag to } else tuple_in bytes)
remapped_or false to bytes l = ap tuple_in (take-append-drop 4 bytes)
remapped_or true to bytes l =
    as_eight (λ b. tuple_in (take 4 b ++ to_be_bytes w32 (ref_tag to)) ≡ record { guard = (tuple_in b).guard; app = (tuple_in b).app; rtag = ref_tag to })
    (λ a b c d e f g h. same_fields refl refl (from_be_bytes-to_be_bytes_4 (ref_tag to) (tag_below to))) bytes l

-- the mapped bytes of a tuple spell the mapped tuple
pub remapped_is_read : (ty : PiType) (from to : ℕ) (bytes : List ℕ) → length bytes ≡ 8 → tuple_in (remapped_bytes ty from to bytes) ≡ remapped ty from to (tuple_in bytes)
remapped_is_read ty from to bytes l =
    let tag : (tuple_in bytes).rtag ≡ from_be_bytes w32 (drop 4 bytes) = as_eight (λ b. (tuple_in b).rtag ≡ from_be_bytes w32 (drop 4 b)) (λ a b c d e f g h. refl) bytes l in
    ap (λ n. tuple_in (take 4 bytes ++ (if has_ref_tag ty && eqb n (ref_tag from) then to_be_bytes w32 (ref_tag to) else drop 4 bytes))) (sym tag)
    ∙ remapped_or (has_ref_tag ty && eqb (tuple_in bytes).rtag (ref_tag from)) to bytes l

-- what is found, by whether the tuple is an escape and which checks differ

abbrev pub first_by : Bool → Bool → Bool → Bool → Option Check
first_by escape guard app tag = if escape then None else (if guard then Some Guard else (if app then Some AppTag else (if tag then Some RefTag else None)))

last_none : (e g a t u : Bool) → first_by e g a t ≡ None → (t ≡ false → u ≡ false) → first_by e g a u ≡ None
last_none true g a t u h f = refl
last_none false true a t u h f = cc
last_none false false true t u h f = cc
last_none false false false true u h f = cc
last_none false false false false u h f = rw (f refl) refl

new_tag_or : (b : Bool) (e g a r : Bool) (t : Tuple) (to : ℕ) → first_by e g a (r && not b) ≡ None →
    first_by e g a (r && not (eqb (if b then record { guard = t.guard; app = t.app; rtag = ref_tag to } else t).rtag (ref_tag to))) ≡ None
new_tag_or true e g a r t to h =
    let same = eq-eqb (ref_tag to) (ref_tag to) refl in
    last_none e g a (r && false) (r && not (eqb (ref_tag to) (ref_tag to))) h (λ f. rw same f)
new_tag_or false e g a r t to h = last_none e g a (r && true) (r && not (eqb t.rtag (ref_tag to))) h (λ f. elim (cases_Bool r) [
  | inl asked ↦ let off = rw asked at f in cc
  | inr not_asked ↦ and_left r (not (eqb t.rtag (ref_tag to))) not_asked
])

one_or : (b : Bool) (what : Checks) (to guard : ℕ) (t : Tuple) → first_by (eqb t.app 0xFFFF) (what.guard && not (eqb t.guard guard)) (not (eqb (bit_and t.app what.mask) (bit_and what.app what.mask))) (what.rtag && not b) ≡ None →
    finding One what (ref_tag to) guard (if b then record { guard = t.guard; app = t.app; rtag = ref_tag to } else t) ≡ None
one_or true what to guard t h = new_tag_or true _ _ _ what.rtag t to h
one_or false what to guard t h = new_tag_or false _ _ _ what.rtag t to h

two_or : (b : Bool) (what : Checks) (to guard : ℕ) (t : Tuple) → first_by (eqb t.app 0xFFFF) (what.guard && not (eqb t.guard guard)) (not (eqb (bit_and t.app what.mask) (bit_and what.app what.mask))) (what.rtag && not b) ≡ None →
    finding Two what (ref_tag to) guard (if b then record { guard = t.guard; app = t.app; rtag = ref_tag to } else t) ≡ None
two_or true what to guard t h = new_tag_or true _ _ _ what.rtag t to h
two_or false what to guard t h = new_tag_or false _ _ _ what.rtag t to h

-- a tuple that is fine by its tag is fine by the one that it is mapped to
pub fine_by_new_tag : (ty : PiType) (what : Checks) (from to guard : ℕ) (t : Tuple) → finding ty what (ref_tag from) guard t ≡ None → finding ty what (ref_tag to) guard (remapped ty from to t) ≡ None
fine_by_new_tag Zero what from to guard t h = refl
fine_by_new_tag One what from to guard t h = one_or (eqb t.rtag (ref_tag from)) what to guard t h
fine_by_new_tag Two what from to guard t h = two_or (eqb t.rtag (ref_tag from)) what to guard t h
fine_by_new_tag Three what from to guard t h = h
