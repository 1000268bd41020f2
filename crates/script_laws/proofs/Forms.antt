-- each line's words are read as the line
use Rattle.std.proofs.Common.{ℕ, ℤ, pos, negsuc, ◌≡◌, ◌⊎◌, inl, inr, ◌+◌, ◌^◌, ◌<◌, ◌≤◌, ◌||◌, Bool, true, false, eqb, ltb, List, [], ◌∷◌, ◌++◌, length, Option, Some, None, Result, Ok, refl, sym, ap, ◌∙◌, arith}
use Rattle.std.specs.Prelude.{codes, decimal, if◌then◌else◌}
use Rattle.std.specs.Fmt.{signed_decimal}
use Rattle.std.specs.Int.{to_be_bytes, w16}
use Rattle.std.proofs.lemmas.Bool.Decides.{nat_tests}
use Rattle.hex.specs.Hex.{encode_lower}
use Rattle.linear_volume.specs.declared.Linear.{Linear}
use Rattle.script_lines.specs.Passed.{Limits}
use Rattle.pi_guard.specs.declared.GuardKind.{GuardKind}
use Rattle.pi_guard.specs.declared.GuardKind.TheVariants.{Crc, Ip}
use Rattle.stripe_volume.specs.declared.Stripe.{Stripe}
use Rattle.stripe_volume.specs.declared.legs.Leg.{Leg}
use Rattle.script_words.specs.Hexes.{hex_in, tag_in}
use Rattle.script_words.specs.Numbers.{number_within, signed_within}
use Rattle.script_words.specs.Places.{choice_in, word32, word64}
use Rattle.script_lines.specs.declared.kind.ScriptKind.{ScriptKind}
use Rattle.script_lines.specs.declared.line.ScriptLine.TheVariants.{Mode as ModeLine, Limits as LimitsLine, Pages as PagesLine, Block as BlockLine, Expect as ExpectLine, Linear as LinearLine, Stripe as StripeLine, Flip as FlipLine, Shift as ShiftLine, Keep as KeepLine, Fail as FailLine, Schedule as ScheduleLine}
use Rattle.script_lines.specs.declared.line.Spot.{Spot}
use Rattle.script_lines.specs.declared.line.Spot.TheVariants.{Host, Wire, Medium}
use Rattle.script_lines.specs.Forms.{block_form, expect_form, fault_form, flip_form, flip_spot, leg_word, len_in, limits_form, linear_form, lose_form, fail_form, mask_by, mask_in, mode_form, pages_form, place_form, protect_by, protect_in, schedule_form, shift_form, shift_spot, size_by, size_in, stripe_form, striped_form, tear_form}
use Rattle.script_lines.specs.Reading.{◌>>=◌, all_of, ended, fixed, or_bad, some_of, value}
use Rattle.script_laws.specs.Keeping.{AreLegs, AreLimits, Each, IsChoice, IsFlip, IsLeg, IsProtect, IsShift, IsShiftSpot, IsWithin}
use Rattle.script_laws.specs.Lines.{choice_text, fault_words, flip_words, guard_word, leg_words, limits_words, linear_words, block_words, shift_words, spot_word, stripe_words, switch_word, expect_words, tear_words}
use Rattle.script_laws.proofs.Words.{hex_back, negative_back, positive_back, tag_back, within_back}
use Rattle.script_laws.proofs.Places.{choice_alone, choice_both, leg_back, word32_back, word64_back}

pub value_is : {A B : Type 0} (read : List ℕ → Option A) (w : List ℕ) (ws : List (List ℕ)) (a : A) (f : A × List (List ℕ) → Result B ScriptKind) (r : Result B ScriptKind) → read w ≡ Some a → f (a, ws) ≡ r → (value read (w ∷ ws) >>= f) ≡ r
value_is read w ws a f r e g = ap (λ o. or_bad o ws >>= f) e ∙ g

pub within_is : (low high n : ℕ) → high < 2 ^ 64 → IsWithin low high n → number_within low high (decimal n) ≡ Some n
within_is low high n s h = let l = h.low_is in let m = h.high_is in within_back low high n l m (omega (arith, s, m))

protect_is : (n : ℕ) → IsProtect n → protect_in (decimal n) ≡ Some n
protect_is n h = ap protect_by (within_is 1 4 n (omega arith) h.range) ∙ ap (λ b. if b then None else Some n) h.taken_is

protected : (kind : GuardKind) (dix dif : Bool) (n : ℕ) → IsProtect n
    → (value protect_in (decimal n ∷ []) >>= (λ protect. ended (ModeLine (record { kind = kind; dix = dix; dif = dif; protect = protect.0 })) protect.1)) ≡ Ok (ModeLine (record { kind = kind; dix = dix; dif = dif; protect = n }))
protected kind dix dif n h = value_is protect_in (decimal n) [] n _ _ (protect_is n h) refl

pub mode_by : (kind : GuardKind) (dix dif : Bool) (n : ℕ) → IsProtect n → mode_form (guard_word kind ∷ switch_word dix ∷ switch_word dif ∷ decimal n ∷ []) ≡ Ok (ModeLine (record { kind = kind; dix = dix; dif = dif; protect = n }))
unfolding mode_form
mode_by Crc true true n h = protected Crc true true n h
mode_by Crc true false n h = protected Crc true false n h
mode_by Crc false true n h = protected Crc false true n h
mode_by Crc false false n h = protected Crc false false n h
mode_by Ip true true n h = protected Ip true true n h
mode_by Ip true false n h = protected Ip true false n h
mode_by Ip false true n h = protected Ip false true n h
mode_by Ip false false n h = protected Ip false false n h

pub limits_back : (l : Limits) → AreLimits l → limits_form (limits_words l) ≡ Ok (LimitsLine l)
unfolding limits_form
limits_back l h =
    value_is (number_within 1 1024) (decimal l.max_blocks) _ l.max_blocks _ _ (within_is 1 1024 l.max_blocks (omega arith) h.blocks)
    (value_is (number_within 4 1024) (decimal l.max_segs) _ l.max_segs _ _ (within_is 4 1024 l.max_segs (omega arith) h.segs)
    (value_is (number_within 1 1024) (decimal l.max_pi_segs) _ l.max_pi_segs _ _ (within_is 1 1024 l.max_pi_segs (omega arith) h.pi_segs) refl))

pub pages_back : (n : ℕ) → IsWithin 1 256 n → pages_form (decimal n ∷ []) ≡ Ok (PagesLine n)
unfolding pages_form
pages_back n h = value_is (number_within 1 256) (decimal n) _ n _ _ (within_is 1 256 n (omega arith) h) refl

size_is : (n : ℕ) → (n ≡ 512) ⊎ (n ≡ 4096) → size_in (decimal n) ≡ Some n
size_is n (inl e) = ap size_by (word32_back n (omega (arith, e))) ∙ ap (λ k. if eqb k 512 || eqb k 4096 then Some n else None) e
size_is n (inr e) = ap size_by (word32_back n (omega (arith, e))) ∙ ap (λ k. if eqb k 512 || eqb k 4096 then Some n else None) e

pub block_back : (n : ℕ) → (n ≡ 512) ⊎ (n ≡ 4096) → block_form (decimal n ∷ []) ≡ Ok (BlockLine n)
unfolding block_form
block_back n h = value_is size_in (decimal n) _ n _ _ (size_is n h) refl

pub expect_back : (app mask : ℕ) → app < 2 ^ 16 → mask < 2 ^ 16 → eqb mask 0 ≡ false → expect_form (expect_words app mask) ≡ Ok (ExpectLine app mask)
unfolding expect_form
expect_back app mask a m n =
    value_is tag_in (encode_lower (to_be_bytes w16 app)) _ app _ _ (tag_back app a)
    (value_is mask_in (encode_lower (to_be_bytes w16 mask)) _ mask _ _ (ap mask_by (tag_back mask m) ∙ ap (λ b. if b then None else Some mask) n) refl)

place_back : (dev at : ℕ) → dev < 2 ^ 32 → at < 2 ^ 64 → place_form (codes "dev" ∷ decimal dev ∷ codes "at" ∷ decimal at ∷ []) ≡ Ok (dev, at)
unfolding place_form
place_back dev at h l = value_is word32 (decimal dev) _ dev _ _ (word32_back dev h) (value_is word64 (decimal at) _ at _ _ (word64_back at l) refl)

pub linear_back : (e : Linear) → e.start < 2 ^ 64 → IsWithin 1 1048576 e.len → e.dev < 2 ^ 32 → e.at < 2 ^ 64 → linear_form (linear_words e) ≡ Ok (LinearLine e)
unfolding linear_form
linear_back e s l d a =
    value_is word64 (decimal e.start) _ e.start _ _ (word64_back e.start s)
    (value_is len_in (decimal e.len) _ e.len _ _ (within_is 1 1048576 e.len (omega arith) l)
    (ap (λ r. r >>= (λ place. Ok (LinearLine (record { start = e.start; len = e.len; dev = place.0; at = place.1 })))) (place_back e.dev e.at d a)))

all_legs : (legs : List Leg) → Each IsLeg legs → all_of leg_word (leg_words legs) ≡ Ok legs
all_legs [] h = refl
all_legs (l ∷ legs) h =
    ap (λ o. or_bad o (leg_words legs) >>= (λ first. all_of leg_word (leg_words legs) >>= (λ rest. Ok (first.0 ∷ rest)))) (leg_back l.dev l.at (h.0).dev_fits (h.0).at_fits)
    ∙ ap (λ r. r >>= (λ rest. Ok (l ∷ rest))) (all_legs legs h.1)

legs_back : (legs : List Leg) → Each IsLeg legs → 1 ≤ length legs → some_of leg_word (leg_words legs) ≡ Ok legs
legs_back [] h n = absurd (omega arith)
legs_back (l ∷ legs) h n = all_legs (l ∷ legs) h

striped_back : (start len chunk : ℕ) (rest : List (List ℕ)) → start < 2 ^ 64 → IsWithin 1 1048576 len → IsWithin 1 65536 chunk
    → striped_form (decimal start ∷ decimal len ∷ codes "chunk" ∷ decimal chunk ∷ codes "legs" ∷ rest) ≡ Ok (record { start = start; len = len; chunk = chunk }, rest)
unfolding striped_form
striped_back start len chunk rest s l c =
    value_is word64 (decimal start) _ start _ _ (word64_back start s)
    (value_is len_in (decimal len) _ len _ _ (within_is 1 1048576 len (omega arith) l)
    (value_is (number_within 1 65536) (decimal chunk) _ chunk _ _ (within_is 1 65536 chunk (omega arith) c) refl))

pub stripe_back : (s : Stripe) → s.start < 2 ^ 64 → IsWithin 1 1048576 s.len → IsWithin 1 65536 s.chunk → AreLegs s.legs → stripe_form (stripe_words s) ≡ Ok (StripeLine s.start s.len s.chunk s.legs)
unfolding stripe_form
stripe_back s a l c g =
    ap (λ r. r >>= (λ striped. some_of leg_word striped.1 >>= (λ legs. Ok (StripeLine striped.0.start striped.0.len striped.0.chunk legs)))) (striped_back s.start s.len s.chunk (leg_words s.legs) a l c)
    ∙ ap (λ r. r >>= (λ legs. Ok (StripeLine s.start s.len s.chunk legs))) (legs_back s.legs g.each (let n = g.count in n.low_is))

-- An alteration that alters something has a byte.
pub some_byte : (size off : ℕ) (bytes : List ℕ) → IsFlip size off bytes → 1 ≤ length bytes
some_byte size off [] h = let g = h.good in absurd (none (ltb (size + 8) (off + 0)) g)
  where
    none : (b : Bool) → b || true ≡ false → ⊥
    none true e = cc
    none false e = cc
some_byte size off (b ∷ bytes) h = omega arith

pub flip_back : (size off : ℕ) (bytes : List ℕ) → size ≤ 4096 → IsFlip size off bytes → flip_form size (flip_words off bytes) ≡ Ok (off, bytes)
unfolding flip_form
flip_back size off bytes s h =
    let o = h.off_fits in
    value_is (number_within 0 (size + 7)) (decimal off) _ off _ _ (within_back 0 (size + 7) off (omega arith) o (omega (arith, o, s)))
    (value_is (hex_in 32) (encode_lower bytes) _ bytes _ _ (hex_back 32 bytes h.are_bytes (some_byte size off bytes h) h.count) refl)

flip_spot_is : (spot : Spot) (ws : List (List ℕ)) → flip_spot (spot_word spot ∷ ws) ≡ Ok (spot, ws)
flip_spot_is Host ws = refl
flip_spot_is Wire ws = refl
flip_spot_is Medium ws = refl

shift_spot_is : (spot : Spot) (ws : List (List ℕ)) → IsShiftSpot spot → shift_spot (spot_word spot ∷ ws) ≡ Ok (spot, ws)
shift_spot_is Host ws h = absurd h
shift_spot_is Wire ws h = refl
shift_spot_is Medium ws h = refl

pub fault_back : (size op k : ℕ) (spot : Spot) (off : ℕ) (bytes : List ℕ) → size ≤ 4096 → IsWithin 1 1024 op → k ≤ 2047 → IsFlip size off bytes → fault_form size (fault_words op k spot off bytes) ≡ Ok (FlipLine op k spot off bytes)
unfolding fault_form
fault_back size op k spot off bytes s o l h =
    value_is (number_within 1 1024) (decimal op) _ op _ _ (within_is 1 1024 op (omega arith) o)
    (value_is (number_within 0 2047) (decimal k) _ k _ _ (within_back 0 2047 k (omega arith) l (omega (arith, l)))
    (ap (λ r. r >>= (λ found. fixed (codes "flip") found.1 >>= (λ behind. flip_form size behind >>= (λ flip. Ok (FlipLine op k found.0 flip.0 flip.1))))) (flip_spot_is spot (codes "flip" ∷ flip_words off bytes))
    ∙ ap (λ r. r >>= (λ flip. Ok (FlipLine op k spot flip.0 flip.1))) (flip_back size off bytes s h)))

pub lose_back : (op k : ℕ) → IsWithin 1 1024 op → k ≤ 2047 → lose_form (block_words op k) ≡ Ok (KeepLine op k 0)
unfolding lose_form
lose_back op k o l =
    value_is (number_within 1 1024) (decimal op) _ op _ _ (within_is 1 1024 op (omega arith) o)
    (value_is (number_within 0 2047) (decimal k) _ k _ _ (within_back 0 2047 k (omega arith) l (omega (arith, l))) refl)

pub tear_back : (size op k bytes : ℕ) → size ≤ 4096 → IsWithin 1 1024 op → k ≤ 2047 → 1 ≤ bytes → bytes ≤ size + 7 → tear_form size (tear_words op k bytes) ≡ Ok (KeepLine op k bytes)
unfolding tear_form
tear_back size op k bytes s o l some most =
    value_is (number_within 1 1024) (decimal op) _ op _ _ (within_is 1 1024 op (omega arith) o)
    (value_is (number_within 0 2047) (decimal k) _ k _ _ (within_back 0 2047 k (omega arith) l (omega (arith, l)))
    (value_is (number_within 1 (size + 7)) (decimal bytes) _ bytes _ _ (within_back 1 (size + 7) bytes some most (omega (arith, most, s))) refl))

pub fail_back : (op k : ℕ) → IsWithin 1 1024 op → k ≤ 2047 → fail_form (block_words op k) ≡ Ok (FailLine op k)
unfolding fail_form
fail_back op k o l =
    value_is (number_within 1 1024) (decimal op) _ op _ _ (within_is 1 1024 op (omega arith) o)
    (value_is (number_within 0 2047) (decimal k) _ k _ _ (within_back 0 2047 k (omega arith) l (omega (arith, l))) refl)

signed_is : (by : ℤ) → IsShift by → signed_within 64 (signed_decimal by) ≡ Some by
signed_is (pos n) h = let l = h.high_is in positive_back 64 n l (omega (arith, l))
signed_is (negsuc n) h = negative_back 64 n h (omega (arith, h))

pub shift_back : (op : ℕ) (spot : Spot) (by : ℤ) → IsWithin 1 1024 op → IsShiftSpot spot → IsShift by → shift_form (shift_words op spot by) ≡ Ok (ShiftLine op spot by)
unfolding shift_form
shift_back op spot by o w h =
    value_is (number_within 1 1024) (decimal op) _ op _ _ (within_is 1 1024 op (omega arith) o)
    (ap (λ r. r >>= (λ found. value (signed_within 64) found.1 >>= (λ by. ended (ShiftLine op found.0 by.0) by.1))) (shift_spot_is spot (signed_decimal by ∷ []) w)
    ∙ value_is (signed_within 64) (signed_decimal by) [] by _ _ (signed_is by h) refl)

same_zero : (n : ℕ) → eqb n 0 ≡ true → n ≡ 0
same_zero n h = grind (arith, nat_tests)

choice_by : (b : Bool) (e : ℕ × ℕ) → eqb e.1 0 ≡ b → IsChoice e → choice_in (if b then decimal e.0 else decimal e.0 ++ (47 ∷ decimal e.1)) ≡ Some e
choice_by true e z h = choice_alone e.0 h.0 ∙ ap (λ (c : ℕ). Some (e.0, c)) (sym (same_zero e.1 z))
choice_by false e z h = choice_both e.0 e.1 h.0 h.1

pub choice_back : (e : ℕ × ℕ) → IsChoice e → choice_in (choice_text e) ≡ Some e
choice_back e h = choice_by (eqb e.1 0) e refl h

pub schedule_back : (e : ℕ × ℕ) → IsChoice e → schedule_form (choice_text e ∷ []) ≡ Ok (ScheduleLine (e ∷ []))
unfolding schedule_form
schedule_back e h = ap (λ o. (or_bad o [] >>= (λ first. all_of choice_in [] >>= (λ rest. Ok (first.0 ∷ rest)))) >>= (λ entries. Ok (ScheduleLine entries))) (choice_back e h)
