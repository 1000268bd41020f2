-- A frame of which one byte of data or guard was altered has another guard than that of its data.
use Rattle.std.proofs.Common.{◌≡◌, ◌≢◌, ◌<◌, ◌≤◌, ℕ, zero, suc, ◌+◌, ◌-◌, ◌%◌, Bool, true, false, eqb, ◌&&◌, not, if◌then◌else◌, List, [], ◌∷◌, length, take, drop, get_or, replicate, ◌⊎◌, Some, None, inl, inr, refl, sym, ap, ◌∙◌, arith}
use Rattle.std.specs.Prelude.{bit_and, bit_xor}
use Rattle.std.specs.Int.{w16, from_be_bytes}
use Rattle.std.specs.List.{list_all}
use Rattle.std.specs.Int.Bits.{xor_zero_r}
use Rattle.std.proofs.lemmas.Bool.{and_from, and_parts, cases_lt, eq-eqb, eqb-false, eqb-true, ne_eqb, not_from_false}
use Rattle.std.proofs.lemmas.List.{get_or-drop, get_or-take, get_or_past, length-drop, length-replicate, length-take-le}
use Rattle.pi_guard.specs.Guards.{guard_of}
use Rattle.pi_guard.specs.declared.GuardKind.{GuardKind}
use Rattle.pi_tuple.specs.Finds.{finding, is_escaped}
use Rattle.pi_tuple.specs.Tuples.{tuple_bytes}
use Rattle.pi_tuple.specs.declared.checks.Check.{Check}
use Rattle.pi_tuple.specs.declared.checks.Check.TheVariants.{Guard, RefTag}
use Rattle.pi_tuple.specs.declared.checks.PiType.TheVariants.{One}
use Rattle.pi_tuple.specs.declared.tuple.Tuple.{Tuple}
use Rattle.pi_tuple.proofs.TupleLaws.{same_fields}
use Rattle.integrity_payload.specs.Payloads.{all_asked}
use Rattle.fault_schedule.specs.Altered.{xored_from}
use Rattle.fault_schedule.proofs.Xored.{get-xored, length-xored}
use Rattle.guard_laws.proofs.Flips.{xor_kept}
use Rattle.rig_api.specs.Frames.{data_of, tuple_of}
use Rattle.block_path.proofs.Cells.{AllBelow}
use Rattle.walk_laws.proofs.TupleFrames.{below_at, below_drop, below_replicate, below_take, spelled}
use Rattle.run_laws.proofs.Found.{bears_both, expected, passed}
use Rattle.walk_laws.specs.Detectable.{bears}
use Rattle.run_premises.specs.Forms.{is_near, is_none, is_seen}
use Rattle.run_premises.proofs.Frames.{after_bytes, after_size, all_of, app_stays, mask, not_right, xored_below}
use Rattle.run_premises.proofs.Near.{named_at, near_seen, take-xored}

-- a frame of full size, of bytes, that is no escape
pub record Whole (n : ℕ) (x : List ℕ) : Type 0 where
  pub size : length x ≡ n + 8
  pub bytes : AllBelow 256 x
  pub escape : is_escaped One (tuple_of n x) ≡ false

-- its guard is that of its data
abbrev pub Right : ℕ → GuardKind → List ℕ → Type 0
Right n kind x = (tuple_of n x).guard ≡ guard_of kind (data_of n x)

-- or it isn't
abbrev pub IsWrong : ℕ → GuardKind → List ℕ → Type 0
IsWrong n kind x = eqb (tuple_of n x).guard (guard_of kind (data_of n x)) ≡ false

-- a check finds the guard first
pub guard_found : (app mask want g : ℕ) (t : Tuple) → is_escaped One t ≡ false → eqb t.guard g ≡ false → finding One (all_asked app mask) want g t ≡ Some Guard
guard_found app mask want g t e h = rw (e, h) refl

-- where it finds nothing, the guard is right
pub guard_right : (n app mask want : ℕ) (kind : GuardKind) (x : List ℕ) → is_escaped One (tuple_of n x) ≡ false → finding One (all_asked app mask) want (guard_of kind (data_of n x)) (tuple_of n x) ≡ None → Right n kind x
guard_right n app mask want kind x e none =
    let t : Tuple = tuple_of n x in
    let g : ℕ = guard_of kind (data_of n x) in
    (bears_both t g want (and_parts (bears t g want) (expected app mask t) (passed app mask want g t e none)).0).guard

-- ---- one byte among zeros

all_none : (xs : List ℕ) → ((k : ℕ) → get_or xs k 0 ≡ 0) → list_all is_none xs ≡ true
all_none [] h = refl
all_none (x ∷ xs) h = and_from (is_none x) (list_all is_none xs) (eq-eqb x 0 (h 0)) (all_none xs (λ k. h (suc k)))

one_is_near : (xs : List ℕ) (off : ℕ) → off < length xs → get_or xs off 0 ≢ 0 → ((k : ℕ) → k ≢ off → get_or xs k 0 ≡ 0) → is_near xs ≡ true
one_is_near [] off l some none = absurd (omega arith)
one_is_near (x ∷ []) zero l some none = not_from_false (is_none x) (ne_eqb x 0 some)
one_is_near (x ∷ []) (suc off) l some none = absurd (omega arith)
one_is_near (x ∷ y ∷ rest) zero l some none =
    let second : y ≡ 0 = none 1 (λ e. omega (arith, e)) in
    let others : list_all is_none rest ≡ true = all_none rest (λ k. none (suc (suc k)) (λ e. omega (arith, e))) in
    let e : is_none x ≡ false = ne_eqb x 0 some in
    let f : eqb y 255 ≡ false = ne_eqb y 255 (λ e. omega (arith, e, second)) in
    both (is_none x) (eqb x 255) (eqb y 255) (list_all is_none rest) (is_near (y ∷ rest)) e f others
  where
    both : (c p q r d : Bool) → c ≡ false → q ≡ false → r ≡ true → (if c then d else not (p && q) && r) ≡ true
    both c p q r d e f h = rw (e, f, h) (by p)
      where
        by : (p : Bool) → (not (p && false) && true) ≡ true
        by true = refl
        by false = refl
one_is_near (x ∷ y ∷ rest) (suc off) l some none =
    let first : is_none x ≡ true = eq-eqb x 0 (none 0 (λ e. omega (arith, e))) in
    ap (λ c. if c then is_near (y ∷ rest) else not (eqb x 255 && eqb y 255) && list_all is_none rest) first
    ∙ one_is_near (y ∷ rest) off (omega arith) some (λ k d. none (suc k) (λ e. d (omega (arith, e))))

-- ---- the frame

-- a name of one byte alone, at this place
pub record IsOne (off byte : ℕ) (f : ℕ → ℕ) : Type 0 where
  pub here : f off ≡ byte
  pub there : (k : ℕ) → k ≢ off → f k ≡ 0

-- Whatever a check found nothing in, it finds this in after the flip.
pub record IsSeenFlip (n : ℕ) (f : ℕ → ℕ) (check : Check) : Type 0 where
  pub whole : (x : List ℕ) → Whole n x → Whole n (xored_from f 0 x)
  pub found : (app mask want : ℕ) (kind : GuardKind) (x : List ℕ) → Whole n x → finding One (all_asked app mask) want (guard_of kind (data_of n x)) (tuple_of n x) ≡ None →
      finding One (all_asked app mask) want (guard_of kind (data_of n (xored_from f 0 x))) (tuple_of n (xored_from f 0 x)) ≡ Some check

module _ (off byte : ℕ) (fits : byte < 256) (f : ℕ → ℕ) (one : IsOne off byte f) where
  f_below : (k : ℕ) → f k < 256
  f_below k = by (eqb k off) refl
    where
      by : (c : Bool) → eqb k off ≡ c → f k < 256
      by true e = let q = ap f (eqb-true k off e) ∙ one.here in omega (arith, q, fits)
      by false e = let q = one.there k (eqb-false k off e) in omega (arith, q)

module _ (n off byte : ℕ) (front : off < n + 2) (some : 1 ≤ byte) (fits : byte < 256) (even : n % 2 ≡ 0) (f : ℕ → ℕ) (one : IsOne off byte f) where
  abbrev below_all : (k : ℕ) → f k < 256
  below_all = f_below off byte fits f one

  mask_at : (k : ℕ) → k < n + 8 → get_or (mask n f) k 0 ≡ f k
  mask_at k l = named_at f (n + 8) k l

  long : length (mask n f) ≡ n + 8
  long = length-xored f 0 (replicate (n + 8) 0) ∙ length-replicate {A = ℕ} (n + 8) 0

  mask_none : (k : ℕ) → k ≢ off → get_or (mask n f) k 0 ≡ 0
  mask_none k d = by (cases_lt k (n + 8))
    where
      by : (k < n + 8) ⊎ (n + 8 ≤ k) → get_or (mask n f) k 0 ≡ 0
      by (inl l) = mask_at k l ∙ one.there k d
      by (inr l) = get_or_past (mask n f) k 0 (omega (arith, l, long))

  -- the tags stay
  tail_none : list_all is_none (drop (n + 2) (mask n f)) ≡ true
  tail_none = all_none (drop (n + 2) (mask n f)) (λ k. get_or-drop (n + 2) (mask n f) k 0 ∙ mask_none (n + 2 + k) (λ e. omega (arith, e, front)))

  abbrev fore : List ℕ
  fore = take (n + 2) (mask n f)

  fore_long : length fore ≡ n + 2
  fore_long = length-take-le (n + 2) (mask n f) (omega (arith, long))

  fore_here : get_or fore off 0 ≡ byte
  fore_here = get_or-take (n + 2) (mask n f) off 0 front ∙ mask_at off (omega (arith, front)) ∙ one.here

  fore_none : (k : ℕ) → k ≢ off → get_or fore k 0 ≡ 0
  fore_none k d = by (cases_lt k (n + 2))
    where
      by : (k < n + 2) ⊎ (n + 2 ≤ k) → get_or fore k 0 ≡ 0
      by (inl l) = get_or-take (n + 2) (mask n f) k 0 l ∙ mask_none k d
      by (inr l) = get_or_past fore k 0 (omega (arith, l, fore_long))

  fore_seen : (kind : GuardKind) → is_seen kind fore ≡ true
  fore_seen kind =
      near_seen kind fore (all_of fore (below_take 256 (n + 2) (mask n f) (xored_below f 0 (replicate (n + 8) 0) below_all (below_replicate 256 (n + 8) 0 (omega arith)))))
      (one_is_near fore off (omega (arith, front, fore_long)) (λ e. omega (arith, e, fore_here, some)) fore_none)

  pub flip_whole : (x : List ℕ) → Whole n x → Whole n (xored_from f 0 x)
  flip_whole x h = record {
    size = after_size n f below_all x h.size h.bytes;
    bytes = after_bytes n f below_all x h.size h.bytes;
    escape = ap (λ a. eqb a 0xFFFF) (app_stays n f below_all x h.size h.bytes tail_none) ∙ h.escape;
  }

  pub flip_wrong : (kind : GuardKind) (x : List ℕ) → Whole n x → Right n kind x → IsWrong n kind (xored_from f 0 x)
  flip_wrong kind x h right = ne_eqb (tuple_of n (xored_from f 0 x)).guard (guard_of kind (data_of n (xored_from f 0 x))) (λ e. not_right n f below_all x h.size h.bytes kind even (fore_seen kind) right e)

  pub front_seen : IsSeenFlip n f Guard
  front_seen = record {
    whole = flip_whole;
    found = λ app mask want kind x h none.
        let y = xored_from f 0 x in
        guard_found app mask want (guard_of kind (data_of n y)) (tuple_of n y) (flip_whole x h).escape (flip_wrong kind x h (guard_right n app mask want kind x h.escape none));
  }

-- ---- the reference tag

pub tag_found : (app mask want g : ℕ) (t : Tuple) → is_escaped One t ≡ false → eqb t.guard g ≡ true → expected app mask t ≡ true → eqb t.rtag want ≡ false → finding One (all_asked app mask) want g t ≡ Some RefTag
tag_found app mask want g t e p q r = rw (e, p, q, r) refl

unnamed : (f : ℕ → ℕ) (i m : ℕ) (xs : List ℕ) → i + length xs ≤ m → ((k : ℕ) → k < m → f k ≡ 0) → xored_from f i xs ≡ xs
unnamed f i m [] l h = refl
unnamed f i m (x ∷ xs) l h = ap (λ v. bit_xor x v ∷ xored_from f (i + 1) xs) (h i (omega arith)) ∙ ap (λ v. v ∷ xored_from f (i + 1) xs) (xor_zero_r x) ∙ ap (λ v. x ∷ v) (unnamed f (i + 1) m xs (omega arith) h)

module _ (n off byte : ℕ) (low : n + 4 ≤ off) (high : off < n + 8) (some : 1 ≤ byte) (fits : byte < 256) (f : ℕ → ℕ) (one : IsOne off byte f) where
  abbrev after : List ℕ → List ℕ
  after x = xored_from f 0 x

  bytes_after : (x : List ℕ) → AllBelow 256 x → AllBelow 256 (after x)
  bytes_after x h = xored_below f 0 x (f_below off byte fits f one) h

  size_after : (x : List ℕ) → Whole n x → length (after x) ≡ n + 8
  size_after x h = length-xored f 0 x ∙ h.size

  pub tag_data : (x : List ℕ) → Whole n x → data_of n (after x) ≡ data_of n x
  tag_data x h =
      let l = length-take-le n x (let s = h.size in omega (arith, s)) in
      take-xored f n 0 x ∙ unnamed f 0 n (take n x) (omega (arith, l)) (λ k g. one.there k (λ e. omega (arith, e, g, low)))

  byte_at_is : (x : List ℕ) → Whole n x → (i : ℕ) → i < 8 → get_or (drop n (after x)) i 0 ≡ bit_xor (get_or (drop n x) i 0) (f (n + i))
  byte_at_is x h i l =
      let s = h.size in
      let z : 0 + (n + i) ≡ n + i = omega arith in
      get_or-drop n (after x) i 0 ∙ get-xored f 0 x (n + i) (omega (arith, l, s)) ∙ ap (λ v. bit_xor (get_or x (n + i) 0) (f v)) z ∙ ap (λ v. bit_xor v (f (n + i))) (sym (get_or-drop n x i 0))

  byte_same : (x : List ℕ) → Whole n x → (i : ℕ) → i < 4 → get_or (drop n (after x)) i 0 ≡ get_or (drop n x) i 0
  byte_same x h i l =
      byte_at_is x h i (omega (arith, l)) ∙ ap (bit_xor (get_or (drop n x) i 0)) (one.there (n + i) (λ e. omega (arith, e, l, low))) ∙ xor_zero_r (get_or (drop n x) i 0)

  pub tag_guard : (x : List ℕ) → Whole n x → (tuple_of n (after x)).guard ≡ (tuple_of n x).guard
  tag_guard x h =
      ap (λ v. from_be_bytes w16 (v ∷ get_or (drop n (after x)) 1 0 ∷ [])) (byte_same x h 0 (omega arith)) ∙ ap (λ v. from_be_bytes w16 (get_or (drop n x) 0 0 ∷ v ∷ [])) (byte_same x h 1 (omega arith))

  pub tag_app : (x : List ℕ) → Whole n x → (tuple_of n (after x)).app ≡ (tuple_of n x).app
  tag_app x h =
      ap (λ v. from_be_bytes w16 (v ∷ get_or (drop n (after x)) 3 0 ∷ [])) (byte_same x h 2 (omega arith)) ∙ ap (λ v. from_be_bytes w16 (get_or (drop n x) 2 0 ∷ v ∷ [])) (byte_same x h 3 (omega arith))

  eight : (x : List ℕ) → length x ≡ n + 8 → length (drop n x) ≡ 8
  eight x l = let d = length-drop n x in omega (arith, d, l)

  spelled_out : (x : List ℕ) → length x ≡ n + 8 → AllBelow 256 x → tuple_bytes (tuple_of n x) ≡ drop n x
  spelled_out x l b = spelled (drop n x) (eight x l) (λ i. below_at 256 (drop n x) i 0 (omega arith) (below_drop 256 n x b))

  pub tag_differs : (x : List ℕ) → Whole n x → (tuple_of n (after x)).rtag ≢ (tuple_of n x).rtag
  tag_differs x h e =
      let i : ℕ = off - n in
      let z : n + i ≡ off = omega (arith, low) in
      let t : tuple_of n (after x) ≡ tuple_of n x = same_fields (tag_guard x h) (tag_app x h) e in
      let same : drop n (after x) ≡ drop n x = sym (spelled_out (after x) (size_after x h) (bytes_after x h.bytes)) ∙ ap tuple_bytes t ∙ spelled_out x h.size h.bytes in
      let kept : f (n + i) ≡ 0 = xor_kept (get_or (drop n x) i 0) (f (n + i)) (sym (byte_at_is x h i (omega (arith, low, high))) ∙ ap (λ v. get_or v i 0) same) in
      let here : byte ≡ 0 = sym one.here ∙ ap f (sym z) ∙ kept in
      omega (arith, here, some)

  pub tag_whole : (x : List ℕ) → Whole n x → Whole n (after x)
  tag_whole x h = record { size = size_after x h; bytes = bytes_after x h.bytes; escape = ap (λ a. eqb a 0xFFFF) (tag_app x h) ∙ h.escape }

  pub tag_seen : IsSeenFlip n f RefTag
  tag_seen = record {
    whole = tag_whole;
    found = λ app mask want kind x h none.
        let y = after x in
        let t : Tuple = tuple_of n x in
        let g : ℕ = guard_of kind (data_of n x) in
        let p = and_parts (bears t g want) (expected app mask t) (passed app mask want g t h.escape none) in
        let b = bears_both t g want p.0 in
        tag_found app mask want (guard_of kind (data_of n y)) (tuple_of n y) (tag_whole x h).escape
        (eq-eqb (tuple_of n y).guard (guard_of kind (data_of n y)) (tag_guard x h ∙ b.guard ∙ sym (ap (guard_of kind) (tag_data x h))))
        (ap (λ a. eqb (bit_and a mask) (bit_and app mask)) (tag_app x h) ∙ p.1)
        (ne_eqb (tuple_of n y).rtag want (λ e. tag_differs x h (e ∙ sym b.rtag)));
  }
