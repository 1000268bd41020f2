-- Data and tuple of a frame, after its guard or its tag was replaced, and after a crossing.
use Rattle.std.proofs.Common.{◌≡◌, ◌<◌, ℕ, ◌+◌, ◌^◌, Bool, true, false, ◌&&◌, eqb, if◌then◌else◌, List, [], ◌∷◌, ◌++◌, length, take, drop, refl, sym, ap, ◌∙◌, arith, length-append}
use Rattle.std.specs.Prelude.{bit_xor}
use Rattle.std.specs.Int.{w16, w32, from_be_bytes, to_be_bytes}
use Rattle.std.specs.Int.Bits.{xor_zero_r}
use Rattle.std.specs.List.{list_any}
use Rattle.std.proofs.lemmas.Bool.{or_parts, false≢true}
use Rattle.std.proofs.lemmas.List.{drop-drop, drop_at, length-drop, length-take-le, take_at}
use Rattle.std.proofs.lemmas.Nat.{from_be_bytes-to_be_bytes_2, from_be_bytes-to_be_bytes_4}
use Rattle.pi_tuple.specs.Finds.{has_ref_tag}
use Rattle.pi_tuple.specs.Tuples.{ref_tag, tuple_in}
use Rattle.pi_tuple.specs.declared.checks.PiType.{PiType}
use Rattle.pi_tuple.proofs.TupleLaws.{tag_below, same_fields}
use Rattle.fault_schedule.specs.Altered.{altered, flip_at, is_line_of, named, xored_from}
use Rattle.fault_schedule.specs.declared.Label.{Label}
use Rattle.fault_schedule.specs.declared.fault.Crossing.{Crossing}
use Rattle.fault_schedule.specs.declared.fault.FaultKind.{FaultKind}
use Rattle.fault_schedule.specs.declared.fault.FaultKind.TheVariants.{Flip, Shift, Keep, Fail}
use Rattle.fault_schedule.specs.declared.fault.FaultLine.{FaultLine}
use Rattle.walk_laws.specs.Passed.{remapped_bytes, data_of, tuple_of, with_guard}
use Rattle.walk_laws.proofs.Passed.{tuple_length}
use Rattle.walk_laws.specs.FirstLayer.{is_flip}
use Rattle.small_laws.proofs.Lists.{behind_long}

-- the tuple's tag, from one address to another
abbrev pub retag : PiType → (from to : ℕ) → ℕ → ℕ
retag ty from to rtag = if has_ref_tag ty && eqb rtag (ref_tag from) then ref_tag to else rtag

remapped_tuple : (ty : PiType) (from to : ℕ) (b : List ℕ) → length b ≡ 8 →
    tuple_in (remapped_bytes ty from to b) ≡ record { guard = (tuple_in b).guard; app = (tuple_in b).app; rtag = retag ty from to (tuple_in b).rtag }
remapped_tuple ty from to [] l = absurd (omega (arith, l))
remapped_tuple ty from to (a ∷ []) l = absurd (omega (arith, l))
remapped_tuple ty from to (a ∷ b ∷ []) l = absurd (omega (arith, l))
remapped_tuple ty from to (a ∷ b ∷ c ∷ []) l = absurd (omega (arith, l))
remapped_tuple ty from to (a ∷ b ∷ c ∷ d ∷ []) l = absurd (omega (arith, l))
remapped_tuple ty from to (a ∷ b ∷ c ∷ d ∷ e ∷ []) l = absurd (omega (arith, l))
remapped_tuple ty from to (a ∷ b ∷ c ∷ d ∷ e ∷ f ∷ []) l = absurd (omega (arith, l))
remapped_tuple ty from to (a ∷ b ∷ c ∷ d ∷ e ∷ f ∷ g ∷ []) l = absurd (omega (arith, l))
remapped_tuple ty from to (a ∷ b ∷ c ∷ d ∷ e ∷ f ∷ g ∷ k ∷ []) l = by (has_ref_tag ty && eqb (from_be_bytes w32 (e ∷ f ∷ g ∷ k ∷ [])) (ref_tag from)) where
  by : (t : Bool) → tuple_in (a ∷ b ∷ c ∷ d ∷ (if t then to_be_bytes w32 (ref_tag to) else e ∷ f ∷ g ∷ k ∷ []))
      ≡ record { guard = from_be_bytes w16 (a ∷ b ∷ []); app = from_be_bytes w16 (c ∷ d ∷ []); rtag = if t then ref_tag to else from_be_bytes w32 (e ∷ f ∷ g ∷ k ∷ []) }
  by true = same_fields refl refl (from_be_bytes-to_be_bytes_4 (ref_tag to) (tag_below to))
  by false = refl
remapped_tuple ty from to (a ∷ b ∷ c ∷ d ∷ e ∷ f ∷ g ∷ k ∷ m ∷ more) l = absurd (omega (arith, l))

reguarded_tuple : (guard : ℕ) (b : List ℕ) → length b ≡ 8 → guard < 2 ^ 16 →
    tuple_in (to_be_bytes w16 guard ++ drop 2 b) ≡ record { guard = guard; app = (tuple_in b).app; rtag = (tuple_in b).rtag }
reguarded_tuple guard [] l h = absurd (omega (arith, l))
reguarded_tuple guard (a ∷ []) l h = absurd (omega (arith, l))
reguarded_tuple guard (a ∷ b ∷ []) l h = absurd (omega (arith, l))
reguarded_tuple guard (a ∷ b ∷ c ∷ []) l h = absurd (omega (arith, l))
reguarded_tuple guard (a ∷ b ∷ c ∷ d ∷ []) l h = absurd (omega (arith, l))
reguarded_tuple guard (a ∷ b ∷ c ∷ d ∷ e ∷ []) l h = absurd (omega (arith, l))
reguarded_tuple guard (a ∷ b ∷ c ∷ d ∷ e ∷ f ∷ []) l h = absurd (omega (arith, l))
reguarded_tuple guard (a ∷ b ∷ c ∷ d ∷ e ∷ f ∷ g ∷ []) l h = absurd (omega (arith, l))
reguarded_tuple guard (a ∷ b ∷ c ∷ d ∷ e ∷ f ∷ g ∷ k ∷ []) l h = same_fields (from_be_bytes-to_be_bytes_2 guard h) refl refl
reguarded_tuple guard (a ∷ b ∷ c ∷ d ∷ e ∷ f ∷ g ∷ k ∷ m ∷ more) l h = absurd (omega (arith, l))

-- the frame y is x under this guard and this tag
pub record IsUnderTuple (n : ℕ) (g r : ℕ) (x y : List ℕ) : Type 0 where
  pub size : length y ≡ n + 8
  pub body : data_of n y ≡ data_of n x
  pub tuple : tuple_of n y ≡ record { guard = g; app = (tuple_of n x).app; rtag = r }

module _ (n : ℕ) (frame : List ℕ) (size : length frame ≡ n + 8) where
  front : length (take n frame) ≡ n
  front = length-take-le n frame (omega (arith, size))

  eight : length (drop n frame) ≡ 8
  eight = behind_long n 8 frame size

  -- the frame whose tag was mapped
  abbrev pub mapped : PiType → ℕ → ℕ → List ℕ
  mapped ty from to = data_of n frame ++ remapped_bytes ty from to (drop n frame)

  pub mapped_body : (ty : PiType) (from to : ℕ) → data_of n (mapped ty from to) ≡ data_of n frame
  mapped_body ty from to = take_at (take n frame) (remapped_bytes ty from to (drop n frame)) n front

  pub mapped_tuple : (ty : PiType) (from to : ℕ) →
      tuple_of n (mapped ty from to) ≡ record { guard = (tuple_of n frame).guard; app = (tuple_of n frame).app; rtag = retag ty from to (tuple_of n frame).rtag }
  mapped_tuple ty from to = ap tuple_in (drop_at (take n frame) (remapped_bytes ty from to (drop n frame)) n front) ∙ remapped_tuple ty from to (drop n frame) eight

  pub mapped_length : (ty : PiType) (from to : ℕ) → length (mapped ty from to) ≡ n + 8
  mapped_length ty from to =
      let a = length-append (take n frame) (remapped_bytes ty from to (drop n frame)) in
      let b = tuple_length ty from to (drop n frame) eight in
      omega (arith, a, b, front)

  pub guarded_length : (guard : ℕ) → length (with_guard n guard frame) ≡ n + 8
  guarded_length guard =
      let a = length-append (take n frame) (to_be_bytes w16 guard ++ drop (n + 2) frame) in
      let b = length-append (to_be_bytes w16 guard) (drop (n + 2) frame) in
      let c = length-drop (n + 2) frame in
      omega (arith, a, b, c, front, size)

  -- the frame whose guard was replaced
  pub guarded : (guard : ℕ) → guard < 2 ^ 16 → (r : ℕ) → (tuple_of n frame).rtag ≡ r → IsUnderTuple n guard r frame (with_guard n guard frame)
  guarded guard h r e = record {
    size = guarded_length guard;
    body = take_at (take n frame) (to_be_bytes w16 guard ++ drop (n + 2) frame) n front;
    tuple =
        ap tuple_in (drop_at (take n frame) (to_be_bytes w16 guard ++ drop (n + 2) frame) n front)
        ∙ ap (λ rest. tuple_in (to_be_bytes w16 guard ++ rest)) (sym (drop-drop 2 n frame))
        ∙ reguarded_tuple guard (drop n frame) eight h
        ∙ same_fields refl refl e;
  }

-- a crossing at which no line flips a byte
named_none : (faults : List FaultLine) (at : Crossing) (label : Label) → list_any (λ line. is_line_of line at label && is_flip line.kind) faults ≡ false → (i : ℕ) → named faults at label i ≡ 0
named_none [] at label h i = refl
named_none (line ∷ faults) at label h i =
    let p = or_parts (is_line_of line at label && is_flip line.kind) (list_any (λ line. is_line_of line at label && is_flip line.kind) faults) h in
    let first = by (is_line_of line at label) line.kind p.0 in
    let rest = named_none faults at label p.1 i in
    let none : bit_xor 0 0 ≡ 0 = xor_zero_r 0 in
    cc
  where
    by : (c : Bool) (kind : FaultKind) → (c && is_flip kind) ≡ false → (if c then flip_at kind i else 0) ≡ 0
    by false kind h = refl
    by true (Flip off bytes) h = absurd (false≢true (sym h))
    by true (Shift z) h = refl
    by true (Keep n) h = refl
    by true Fail h = refl

xored_none : (name : ℕ → ℕ) → ((i : ℕ) → name i ≡ 0) → (i : ℕ) (xs : List ℕ) → xored_from name i xs ≡ xs
xored_none name h i [] = refl
xored_none name h i (x ∷ xs) =
    let rest = xored_none name h (i + 1) xs in
    let first = ap (bit_xor x) (h i) ∙ xor_zero_r x in
    cc

pub not_altered : (faults : List FaultLine) (at : Crossing) (label : Label) (frame : List ℕ) → list_any (λ line. is_line_of line at label && is_flip line.kind) faults ≡ false → altered faults at label frame ≡ frame
not_altered faults at label frame h = xored_none (named faults at label) (named_none faults at label h) 0 frame
