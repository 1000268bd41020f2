-- what a line is, where its words were read as one
use Rattle.std.proofs.Common.{ℕ, ℤ, pos, negsuc, suc, ◌≡◌, ◌⊎◌, inl, inr, ◌+◌, ◌-◌, ◌^◌, ◌<◌, ◌≤◌, ◌||◌, Bool, true, false, eqb, List, [], ◌∷◌, length, Option, Some, None, Result, Ok, Err, refl, sym, subst, ap, ◌∙◌, arith}
use Rattle.std.specs.Prelude.{codes, if◌then◌else◌}
use Rattle.std.specs.Str.{bytes_eq}
use Rattle.std.proofs.lemmas.Bool.Decides.{nat_tests}
use Rattle.hex.specs.Hex.{IsBytes}
use Rattle.linear_volume.specs.declared.Linear.{Linear}
use Rattle.script_lines.specs.Passed.{Limits}
use Rattle.stripe_volume.specs.declared.legs.Leg.{Leg}
use Rattle.script_words.specs.Cuts.{Cut, cut}
use Rattle.script_words.specs.Hexes.{byte_in, hex_in, long_tag_in, tag_in}
use Rattle.script_words.specs.Numbers.{as_negative, as_positive, number_within, signed_within}
use Rattle.script_words.specs.Places.{both as both_numbers, choice_by, choice_in, leg_in, pair_by, seg_in, segs_in, spot_in, word32, word64}
use Rattle.script_lines.specs.declared.kind.ScriptKind.{ScriptKind}
use Rattle.script_lines.specs.declared.line.ScriptLine.{ScriptLine}
use Rattle.script_lines.specs.declared.line.ScriptLine.TheVariants.{Mode as ModeLine, Limits as LimitsLine, Pages as PagesLine, Block as BlockLine, Expect as ExpectLine, Inner as InnerLine, Linear as LinearLine, Stripe as StripeLine, Over as OverLine, Flip as FlipLine, Shift as ShiftLine, Keep as KeepLine, Fail as FailLine, Schedule as ScheduleLine, Op as AnOp}
use Rattle.script_lines.specs.declared.line.ModeLine.{ModeLine as Moded}
use Rattle.script_lines.specs.declared.line.OpLine.{OpLine}
use Rattle.script_lines.specs.declared.line.OpLine.TheVariants.{Fill, Put, Show, Seal, Write, Read, WritePi, ReadPi, Flip, Copy, Wait}
use Rattle.script_lines.specs.declared.line.Spot.{Spot}
use Rattle.script_lines.specs.declared.line.Spot.TheVariants.{Wire, Medium}
use Rattle.script_lines.specs.declared.volume_lines.Striped.{Striped}
use Rattle.script_lines.specs.Forms.{app_form, as_line, block_form, change_form, expect_form, fault_form, fill_form, flip_form, flip_spot, inner_form, leg_by, leg_word, len_in, limits_form, linear_form, lose_form, fail_form, mask_by, mask_in, mode_form, or_unknown, over_form, overwrite_form, pages_form, place_form, protect_by, protect_in, put_form, read_form, readpi_form, schedule_form, seal_form, shift_form, shift_spot, show_form, size_by, size_in, stripe_form, striped_form, wire_or_medium_in, write_form, writepi_form, guard_by, tear_form}
use Rattle.script_lines.specs.Reading.{all_of, either, fixed, or_bad, some_of, value}
use Rattle.script_laws.specs.Keeping.{AreLimits, Each, IsChoice, IsLeg, IsProtect, IsShiftSpot, IsTag, IsWithin}
use Rattle.script_laws.proofs.Inverse.{byte_ok, ended_ok, got32, got64, hex_got, long_tag_ok, ok_of, or_bad_ok, tag_got, tag_ok, value_ok, within_got, within_ok, word32_ok, word64_ok}

protect_by_ok : (n : ℕ) (o : Option ℕ) → protect_by o ≡ Some n → (o ≡ Some n) × (eqb n 2 ≡ false)
protect_by_ok n None h = absurd (cc)
protect_by_ok n (Some m) h = by (eqb m 2) refl h
  where
    by : (b : Bool) → eqb m 2 ≡ b → (if b then None else Some m) ≡ Some n → (◌≡◌ {A = Option ℕ} (Some m) (Some n)) × (eqb n 2 ≡ false)
    by true e h = absurd (cc)
    by false e h = let s : m ≡ n = cc in (h, ap (λ k. eqb k 2) (sym s) ∙ e)

protect_ok : (n : ℕ) (w : List ℕ) → protect_in w ≡ Some n → IsProtect n
protect_ok n w h = let r = protect_by_ok n (number_within 1 4 w) h in record { range = within_ok 1 4 n w r.0; taken_is = r.1 }

pub mode_gives : (ws : List (List ℕ)) (line : ScriptLine) → mode_form ws ≡ Ok line → (m : Moded) × (line ≡ ModeLine m) × IsProtect m.protect
unfolding mode_form
mode_gives ws line h =
    let a = ok_of (either (codes "ip") (codes "crc") ws) _ line h in
    let b = ok_of (either (codes "on") (codes "off") (a.0).1) _ line a.2 in
    let c = ok_of (either (codes "on") (codes "off") (b.0).1) _ line b.2 in
    let d = ok_of (value protect_in (c.0).1) _ line c.2 in
    let v = value_ok protect_in (c.0).1 d.0 d.1 in
    (record { kind = guard_by (a.0).0; dix = (b.0).0; dif = (c.0).0; protect = (d.0).0 }, ended_ok _ (d.0).1 line d.2, protect_ok (d.0).0 v.0 v.1)

pub limits_gives : (ws : List (List ℕ)) (line : ScriptLine) → limits_form ws ≡ Ok line → (l : Limits) × (line ≡ LimitsLine l) × AreLimits l
unfolding limits_form
limits_gives ws line h =
    let a = ok_of (value (number_within 1 1024) ws) _ line h in
    let b = ok_of (value (number_within 4 1024) (a.0).1) _ line a.2 in
    let c = ok_of (value (number_within 1 1024) (b.0).1) _ line b.2 in (
      record { max_blocks = (a.0).0; max_segs = (b.0).0; max_pi_segs = (c.0).0 },
      ended_ok _ (c.0).1 line c.2,
      record { blocks = within_got 1 1024 ws a.0 a.1; segs = within_got 4 1024 (a.0).1 b.0 b.1; pi_segs = within_got 1 1024 (b.0).1 c.0 c.1 },
    )

pub pages_gives : (ws : List (List ℕ)) (line : ScriptLine) → pages_form ws ≡ Ok line → (n : ℕ) × (line ≡ PagesLine n) × IsWithin 1 256 n
unfolding pages_form
pages_gives ws line h = let a = ok_of (value (number_within 1 256) ws) _ line h in ((a.0).0, ended_ok _ (a.0).1 line a.2, within_got 1 256 ws a.0 a.1)

size_is : (n : ℕ) → eqb n 512 || eqb n 4096 ≡ true → (n ≡ 512) ⊎ (n ≡ 4096)
size_is n h = by (eqb n 512) refl
  where
    same : (a b : ℕ) → eqb a b ≡ true → a ≡ b
    same a b e = grind (arith, nat_tests)

    by : (b : Bool) → eqb n 512 ≡ b → (n ≡ 512) ⊎ (n ≡ 4096)
    by true e = inl (same n 512 e)
    by false e = inr (same n 4096 (sym (ap (λ b. b || eqb n 4096) e) ∙ h))

size_by_ok : (n : ℕ) (o : Option ℕ) → size_by o ≡ Some n → (n ≡ 512) ⊎ (n ≡ 4096)
size_by_ok n None h = absurd (cc)
size_by_ok n (Some m) h = by (eqb m 512 || eqb m 4096) refl h
  where
    by : (b : Bool) → eqb m 512 || eqb m 4096 ≡ b → (if b then Some m else None) ≡ Some n → (n ≡ 512) ⊎ (n ≡ 4096)
    by true e h = let s : m ≡ n = cc in subst (λ k. (k ≡ 512) ⊎ (k ≡ 4096)) s (size_is m e)
    by false e h = absurd (cc)

pub block_gives : (ws : List (List ℕ)) (line : ScriptLine) → block_form ws ≡ Ok line → (n : ℕ) × (line ≡ BlockLine n) × ((n ≡ 512) ⊎ (n ≡ 4096))
unfolding block_form
block_gives ws line h =
    let a = ok_of (value size_in ws) _ line h in
    let v = value_ok size_in ws a.0 a.1 in
    ((a.0).0, ended_ok _ (a.0).1 line a.2, size_by_ok (a.0).0 (word32 v.0) v.1)

mask_by_ok : (n : ℕ) (o : Option ℕ) → mask_by o ≡ Some n → (o ≡ Some n) × (eqb n 0 ≡ false)
mask_by_ok n None h = absurd (cc)
mask_by_ok n (Some m) h = by (eqb m 0) refl h
  where
    by : (b : Bool) → eqb m 0 ≡ b → (if b then None else Some m) ≡ Some n → (◌≡◌ {A = Option ℕ} (Some m) (Some n)) × (eqb n 0 ≡ false)
    by true e h = absurd (cc)
    by false e h = let s : m ≡ n = cc in (h, ap (λ k. eqb k 0) (sym s) ∙ e)

pub expect_gives : (ws : List (List ℕ)) (line : ScriptLine) → expect_form ws ≡ Ok line → (app : ℕ) × (mask : ℕ) × (line ≡ ExpectLine app mask) × (app < 2 ^ 16) × (mask < 2 ^ 16) × (eqb mask 0 ≡ false)
unfolding expect_form
expect_gives ws line h =
    let a = ok_of (value tag_in ws) _ line h in
    let b = ok_of (value mask_in (a.0).1) _ line a.2 in
    let v = value_ok mask_in (a.0).1 b.0 b.1 in
    let m = mask_by_ok (b.0).0 (tag_in v.0) v.1 in
    ((a.0).0, (b.0).0, ended_ok _ (b.0).1 line b.2, tag_got ws a.0 a.1, tag_ok (b.0).0 v.0 m.0, m.1)

pub place_gives : (ws : List (List ℕ)) (p : ℕ × ℕ) → place_form ws ≡ Ok p → (p.0 < 2 ^ 32) × (p.1 < 2 ^ 64)
unfolding place_form
place_gives ws p h =
    let a = ok_of (fixed (codes "dev") ws) _ p h in
    let b = ok_of (value word32 a.0) _ p a.2 in
    let c = ok_of (fixed (codes "at") (b.0).1) _ p b.2 in
    let d = ok_of (value word64 c.0) _ p c.2 in
    let e : p ≡ ((b.0).0, (d.0).0) = ended_ok _ (d.0).1 p d.2 in
    (subst (λ (k : ℕ). k < 2 ^ 32) (sym (ap (λ (q : ℕ × ℕ). q.0) e)) (got32 a.0 b.0 b.1), subst (λ (k : ℕ). k < 2 ^ 64) (sym (ap (λ (q : ℕ × ℕ). q.1) e)) (got64 c.0 d.0 d.1))

ok_same : {A : Type 0} (a b : A) → ◌≡◌ {A = Result A ScriptKind} (Ok a) (Ok b) → b ≡ a
ok_same a b h = cc

pub inner_gives : (ws : List (List ℕ)) (line : ScriptLine) → inner_form ws ≡ Ok line → (volume : ℕ) × (len : ℕ) × (dev : ℕ) × (at : ℕ) × (line ≡ InnerLine volume len dev at) × IsWithin 1 1048576 len × (dev < 2 ^ 32) × (at < 2 ^ 64)
unfolding inner_form
inner_gives ws line h =
    let a = ok_of (value (number_within 0 7) ws) _ line h in
    let b = ok_of (value len_in (a.0).1) _ line a.2 in
    let c = ok_of (place_form (b.0).1) _ line b.2 in
    let p = place_gives (b.0).1 c.0 c.1 in
    ((a.0).0, (b.0).0, (c.0).0, (c.0).1, ok_same _ line c.2, within_got 1 1048576 (a.0).1 b.0 b.1, p.0, p.1)

pub linear_gives : (ws : List (List ℕ)) (line : ScriptLine) → linear_form ws ≡ Ok line → (e : Linear) × (line ≡ LinearLine e) × (e.start < 2 ^ 64) × IsWithin 1 1048576 e.len × (e.dev < 2 ^ 32) × (e.at < 2 ^ 64)
unfolding linear_form
linear_gives ws line h =
    let a = ok_of (value word64 ws) _ line h in
    let b = ok_of (value len_in (a.0).1) _ line a.2 in
    let c = ok_of (place_form (b.0).1) _ line b.2 in
    let p = place_gives (b.0).1 c.0 c.1 in
    (record { start = (a.0).0; len = (b.0).0; dev = (c.0).0; at = (c.0).1 }, ok_same _ line c.2, got64 ws a.0 a.1, within_got 1 1048576 (a.0).1 b.0 b.1, p.0, p.1)

pub record IsStriped (s : Striped) : Type 0 where
  pub start_fits : s.start < 2 ^ 64
  pub len_is : IsWithin 1 1048576 s.len
  pub chunk_is : IsWithin 1 65536 s.chunk

pub striped_gives : (ws : List (List ℕ)) (p : Striped × List (List ℕ)) → striped_form ws ≡ Ok p → IsStriped p.0
unfolding striped_form
striped_gives ws p h =
    let a = ok_of (value word64 ws) _ p h in
    let b = ok_of (value len_in (a.0).1) _ p a.2 in
    let c = ok_of (fixed (codes "chunk") (b.0).1) _ p b.2 in
    let d = ok_of (value (number_within 1 65536) c.0) _ p c.2 in
    let e = ok_of (fixed (codes "legs") (d.0).1) _ p d.2 in
    let s : p ≡ (record { start = (a.0).0; len = (b.0).0; chunk = (d.0).0 }, e.0) = ok_same _ p e.2 in
    subst IsStriped (sym (ap (λ (q : Striped × List (List ℕ)). q.0) s)) (record { start_fits = got64 ws a.0 a.1; len_is = within_got 1 1048576 (a.0).1 b.0 b.1; chunk_is = within_got 1 65536 c.0 d.0 d.1 })

all_give : {A : Type 0} (P : A → Type 0) (read : List ℕ → Option A) (each : (w : List ℕ) (a : A) → read w ≡ Some a → P a) (ws : List (List ℕ)) (xs : List A) → all_of read ws ≡ Ok xs → Each P xs × (length xs ≡ length ws)
all_give P read each [] xs h = let e = ok_same [] xs h in (subst (Each P) (sym e) tt, ap length e)
all_give P read each (w ∷ ws) xs h =
    let a = ok_of (or_bad (read w) ws) _ xs h in
    let b = ok_of (all_of read ws) _ xs a.2 in
    let e = ok_same ((a.0).0 ∷ b.0) xs b.2 in
    let r = all_give P read each ws b.0 b.1 in
    (subst (Each P) (sym e) (each w (a.0).0 (or_bad_ok (read w) ws a.0 a.1), r.0), ap length e ∙ ap suc r.1)

some_give : {A : Type 0} (P : A → Type 0) (read : List ℕ → Option A) (each : (w : List ℕ) (a : A) → read w ≡ Some a → P a) (ws : List (List ℕ)) (xs : List A) → some_of read ws ≡ Ok xs → Each P xs × (1 ≤ length xs)
some_give P read each [] xs h = absurd (cc)
some_give P read each (w ∷ ws) xs h = let r = all_give P read each (w ∷ ws) xs h in let n = r.1 in (r.0, omega (arith, n))

both_ok : (a b : Option ℕ) (p : ℕ × ℕ) → both_numbers a b ≡ Some p → (a ≡ Some p.0) × (b ≡ Some p.1)
both_ok None b p h = absurd (cc)
both_ok (Some a) None p h = absurd (cc)
both_ok (Some a) (Some b) p h = let e : (a, b) ≡ p = cc in (ap (λ (q : ℕ × ℕ). Some q.0) e, ap (λ (q : ℕ × ℕ). Some q.1) e)

pair_ok : (second : List ℕ → Option ℕ) (c : Option Cut) (p : ℕ × ℕ) → pair_by second c ≡ Some p → (v w : List ℕ) × (word32 v ≡ Some p.0) × (second w ≡ Some p.1)
pair_ok second None p h = absurd (cc)
pair_ok second (Some c) p h = let r = both_ok (word32 c.before) (second c.after) p h in (c.before, c.after, r.0, r.1)

leg_by_ok : (o : Option (ℕ × ℕ)) (l : Leg) → leg_by o ≡ Some l → o ≡ Some (l.dev, l.at)
leg_by_ok None l h = absurd (cc)
leg_by_ok (Some p) l h = let e : record { dev = p.0; at = p.1 } ≡ l = cc in ap (λ (x : Leg). Some (x.dev, x.at)) e

leg_ok : (w : List ℕ) (l : Leg) → leg_word w ≡ Some l → IsLeg l
leg_ok w l h = let r = pair_ok word64 (cut 58 w) (l.dev, l.at) (leg_by_ok (leg_in w) l h) in record { dev_fits = word32_ok l.dev r.0 r.2; at_fits = word64_ok l.at r.1 r.3 }

pub stripe_gives : (ws : List (List ℕ)) (line : ScriptLine) → stripe_form ws ≡ Ok line
    → (start : ℕ) × (len : ℕ) × (chunk : ℕ) × (legs : List Leg) × (line ≡ StripeLine start len chunk legs) × (start < 2 ^ 64) × IsWithin 1 1048576 len × IsWithin 1 65536 chunk × Each IsLeg legs × (1 ≤ length legs)
unfolding stripe_form
stripe_gives ws line h =
    let a = ok_of (striped_form ws) _ line h in
    let b = ok_of (some_of leg_word (a.0).1) _ line a.2 in
    let s = striped_gives ws a.0 a.1 in
    let g = some_give IsLeg leg_word leg_ok (a.0).1 b.0 b.1 in
    (((a.0).0).start, ((a.0).0).len, ((a.0).0).chunk, b.0, ok_same _ line b.2, s.start_fits, s.len_is, s.chunk_is, g.0, g.1)

pub over_gives : (ws : List (List ℕ)) (line : ScriptLine) → over_form ws ≡ Ok line
    → (start : ℕ) × (len : ℕ) × (chunk : ℕ) × (volumes : List ℕ) × (line ≡ OverLine start len chunk volumes) × (start < 2 ^ 64) × IsWithin 1 1048576 len × IsWithin 1 65536 chunk × (1 ≤ length volumes)
unfolding over_form
over_gives ws line h =
    let a = ok_of (striped_form ws) _ line h in
    let b = ok_of (some_of (number_within 0 7) (a.0).1) _ line a.2 in
    let s = striped_gives ws a.0 a.1 in
    let g = some_give (λ k. Unit {0}) (number_within 0 7) (λ w k e. tt) (a.0).1 b.0 b.1 in
    (((a.0).0).start, ((a.0).0).len, ((a.0).0).chunk, b.0, ok_same _ line b.2, s.start_fits, s.len_is, s.chunk_is, g.1)

pub flip_gives : (size : ℕ) (ws : List (List ℕ)) (p : ℕ × List ℕ) → flip_form size ws ≡ Ok p → (p.0 ≤ size + 7) × IsBytes p.1 × (length p.1 ≤ 32)
unfolding flip_form
flip_gives size ws p h =
    let a = ok_of (value (number_within 0 (size + 7)) ws) _ p h in
    let b = ok_of (value (hex_in 32) (a.0).1) _ p a.2 in
    let e = ended_ok _ (b.0).1 p b.2 in
    let r = within_got 0 (size + 7) ws a.0 a.1 in
    let x = hex_got 32 (a.0).1 b.0 b.1 in
    (subst (λ (k : ℕ). k ≤ size + 7) (sym (ap (λ (q : ℕ × List ℕ). q.0) e)) r.high_is, subst IsBytes (sym (ap (λ (q : ℕ × List ℕ). q.1) e)) x.0, subst (λ (k : List ℕ). length k ≤ 32) (sym (ap (λ (q : ℕ × List ℕ). q.1) e)) x.1)

pub fault_gives : (size : ℕ) (ws : List (List ℕ)) (line : ScriptLine) → fault_form size ws ≡ Ok line
    → (op : ℕ) × (k : ℕ) × (spot : Spot) × (off : ℕ) × (bytes : List ℕ) × (line ≡ FlipLine op k spot off bytes) × IsWithin 1 1024 op × (k ≤ 2047) × (off ≤ size + 7) × IsBytes bytes × (length bytes ≤ 32)
unfolding fault_form
fault_gives size ws line h =
    let a = ok_of (value (number_within 1 1024) ws) _ line h in
    let b = ok_of (value (number_within 0 2047) (a.0).1) _ line a.2 in
    let c = ok_of (flip_spot (b.0).1) _ line b.2 in
    let d = ok_of (fixed (codes "flip") (c.0).1) _ line c.2 in
    let e = ok_of (flip_form size d.0) _ line d.2 in
    let k = within_got 0 2047 (a.0).1 b.0 b.1 in
    let f = flip_gives size d.0 e.0 e.1 in
    ((a.0).0, (b.0).0, (c.0).0, (e.0).0, (e.0).1, ok_same _ line e.2, within_got 1 1024 ws a.0 a.1, k.high_is, f.0, f.1, f.2)

or_unknown_ok : {A : Type 0} (o : Option A) (ws : List (List ℕ)) (p : A × List (List ℕ)) → or_unknown o ws ≡ Ok p → o ≡ Some p.0
or_unknown_ok None ws p h = absurd (cc)
or_unknown_ok (Some a) ws p h = let e : (a, ws) ≡ p = cc in ap (λ (q : _ × List (List ℕ)). Some q.0) e

some_same : {A : Type 0} (a b : A) → ◌≡◌ {A = Option A} (Some a) (Some b) → a ≡ b
some_same a b h = cc

wire_spot : (s : Spot) (w : List ℕ) → wire_or_medium_in w ≡ Some s → IsShiftSpot s
wire_spot s w h = by (bytes_eq w (codes "wire")) (bytes_eq w (codes "medium")) h
  where
    by : (b c : Bool) → (if b then Some Wire else (if c then Some Medium else None)) ≡ Some s → IsShiftSpot s
    by true c e = subst IsShiftSpot (some_same Wire s e) tt
    by false true e = subst IsShiftSpot (some_same Medium s e) tt
    by false false e = absurd (cc)

shift_spot_ok : (ws : List (List ℕ)) (p : Spot × List (List ℕ)) → shift_spot ws ≡ Ok p → IsShiftSpot p.0
shift_spot_ok [] p h = absurd (cc)
shift_spot_ok (w ∷ ws) p h = wire_spot p.0 w (or_unknown_ok (wire_or_medium_in w) ws p h)

abbrev pub IsSmall : ℤ → Type 0
IsSmall (pos n) = n ≤ 64
IsSmall (negsuc n) = suc n ≤ 64

negative_ok : (z : ℤ) (o : Option ℕ) → ((n : ℕ) → o ≡ Some n → IsWithin 1 64 n) → as_negative o ≡ Some z → IsSmall z
negative_ok z None f h = absurd (cc)
negative_ok z (Some n) f h = let r = f n refl in let l = r.low_is in let m = r.high_is in subst IsSmall (some_same (negsuc (n - 1)) z h) (omega (arith, l, m))

positive_ok : (z : ℤ) (o : Option ℕ) → ((n : ℕ) → o ≡ Some n → IsWithin 0 64 n) → as_positive o ≡ Some z → IsSmall z
positive_ok z None f h = absurd (cc)
positive_ok z (Some n) f h = let r = f n refl in subst IsSmall (some_same (pos n) z h) r.high_is

signed_ok : (w : List ℕ) (z : ℤ) → signed_within 64 w ≡ Some z → IsSmall z
signed_ok [] z h = absurd (cc)
signed_ok (b ∷ w) z h = by (eqb b 45) h
  where
    by : (t : Bool) → (if t then as_negative (number_within 1 64 w) else as_positive (number_within 0 64 (b ∷ w))) ≡ Some z → IsSmall z
    by true e = negative_ok z (number_within 1 64 w) (λ n i. within_ok 1 64 n w i) e
    by false e = positive_ok z (number_within 0 64 (b ∷ w)) (λ n i. within_ok 0 64 n (b ∷ w) i) e

pub shift_gives : (ws : List (List ℕ)) (line : ScriptLine) → shift_form ws ≡ Ok line → (op : ℕ) × (spot : Spot) × (by : ℤ) × (line ≡ ShiftLine op spot by) × IsWithin 1 1024 op × IsShiftSpot spot × IsSmall by
unfolding shift_form
shift_gives ws line h =
    let a = ok_of (value (number_within 1 1024) ws) _ line h in
    let b = ok_of (shift_spot (a.0).1) _ line a.2 in
    let c = ok_of (value (signed_within 64) (b.0).1) _ line b.2 in
    let v = value_ok (signed_within 64) (b.0).1 c.0 c.1 in
    ((a.0).0, (b.0).0, (c.0).0, ended_ok _ (c.0).1 line c.2, within_got 1 1024 ws a.0 a.1, shift_spot_ok (a.0).1 b.0 b.1, signed_ok v.0 (c.0).0 v.1)

pub lose_gives : (ws : List (List ℕ)) (line : ScriptLine) → lose_form ws ≡ Ok line → (op : ℕ) × (k : ℕ) × (line ≡ KeepLine op k 0) × IsWithin 1 1024 op × (k ≤ 2047)
unfolding lose_form
lose_gives ws line h =
    let a = ok_of (value (number_within 1 1024) ws) _ line h in
    let b = ok_of (value (number_within 0 2047) (a.0).1) _ line a.2 in
    ((a.0).0, (b.0).0, ended_ok _ (b.0).1 line b.2, within_got 1 1024 ws a.0 a.1, (within_got 0 2047 (a.0).1 b.0 b.1).high_is)

pub tear_gives : (size : ℕ) (ws : List (List ℕ)) (line : ScriptLine) → tear_form size ws ≡ Ok line → (op : ℕ) × (k : ℕ) × (bytes : ℕ) × (line ≡ KeepLine op k bytes) × IsWithin 1 1024 op × (k ≤ 2047) × (bytes ≤ size + 7)
unfolding tear_form
tear_gives size ws line h =
    let a = ok_of (value (number_within 1 1024) ws) _ line h in
    let b = ok_of (value (number_within 0 2047) (a.0).1) _ line a.2 in
    let c = ok_of (value (number_within 1 (size + 7)) (b.0).1) _ line b.2 in
    ((a.0).0, (b.0).0, (c.0).0, ended_ok _ (c.0).1 line c.2, within_got 1 1024 ws a.0 a.1, (within_got 0 2047 (a.0).1 b.0 b.1).high_is, (within_got 1 (size + 7) (b.0).1 c.0 c.1).high_is)

pub fail_gives : (ws : List (List ℕ)) (line : ScriptLine) → fail_form ws ≡ Ok line → (op : ℕ) × (k : ℕ) × (line ≡ FailLine op k) × IsWithin 1 1024 op × (k ≤ 2047)
unfolding fail_form
fail_gives ws line h =
    let a = ok_of (value (number_within 1 1024) ws) _ line h in
    let b = ok_of (value (number_within 0 2047) (a.0).1) _ line a.2 in
    ((a.0).0, (b.0).0, ended_ok _ (b.0).1 line b.2, within_got 1 1024 ws a.0 a.1, (within_got 0 2047 (a.0).1 b.0 b.1).high_is)

choice_ok : (w : List ℕ) (e : ℕ × ℕ) → choice_in w ≡ Some e → IsChoice e
choice_ok w e h = by (cut 47 w) h
  where
    by : (c : Option Cut) → choice_by w c ≡ Some e → IsChoice e
    by None i = let r = both_ok (word32 w) (Some 0) e i in let z : 0 ≡ e.1 = some_same 0 e.1 r.1 in (word32_ok e.0 w r.0, subst (λ (k : ℕ). k < 2 ^ 32) z (omega arith))
    by (Some c) i = let r = pair_ok word32 (Some c) e i in (word32_ok e.0 r.0 r.2, word32_ok e.1 r.1 r.3)

pub schedule_gives : (ws : List (List ℕ)) (line : ScriptLine) → schedule_form ws ≡ Ok line → (es : List (ℕ × ℕ)) × (line ≡ ScheduleLine es) × Each IsChoice es
unfolding schedule_form
schedule_gives ws line h =
    let a = ok_of (some_of choice_in ws) _ line h in
    let g = some_give IsChoice choice_in choice_ok ws a.0 a.1 in
    (a.0, ok_same _ line a.2, g.0)

-- the numbers of an op's line
abbrev pub Numbers : (size : ℕ) → OpLine → Type 0
Numbers size (Fill seg byte) = byte < 256
Numbers size (Put page off bytes) = IsBytes bytes × (length bytes ≤ 512)
Numbers size (Show seg) = Unit {0}
Numbers size (Seal n body tuples app rtag) = (app < 2 ^ 16) × (rtag < 2 ^ 32)
Numbers size (Write v n body app) = (v < 2 ^ 64) × IsTag app
Numbers size (Read v n body) = v < 2 ^ 64
Numbers size (WritePi v n body tuples) = v < 2 ^ 64
Numbers size (ReadPi v n body tuples) = v < 2 ^ 64
Numbers size (Flip dev lba off bytes) = (dev < 2 ^ 32) × (lba < 2 ^ 64) × (off ≤ size + 7) × IsBytes bytes × (length bytes ≤ 32)
Numbers size (Copy dev lba from_dev from_lba) = (dev < 2 ^ 32) × (lba < 2 ^ 64) × (from_dev < 2 ^ 32) × (from_lba < 2 ^ 64)
Numbers size Wait = Unit {0}

pub fill_gives : (size : ℕ) (ws : List (List ℕ)) (line : OpLine) → fill_form ws ≡ Ok line → Numbers size line
unfolding fill_form
fill_gives size ws line h =
    let a = ok_of (value seg_in ws) _ line h in
    let b = ok_of (value byte_in (a.0).1) _ line a.2 in
    let v = value_ok byte_in (a.0).1 b.0 b.1 in
    subst (Numbers size) (sym (ended_ok (Fill (a.0).0 (b.0).0) (b.0).1 line b.2)) (byte_ok (b.0).0 v.0 v.1)

pub put_gives : (size : ℕ) (ws : List (List ℕ)) (line : OpLine) → put_form ws ≡ Ok line → Numbers size line
unfolding put_form
put_gives size ws line h =
    let a = ok_of (value spot_in ws) _ line h in
    let b = ok_of (value (hex_in 512) (a.0).1) _ line a.2 in
    subst (Numbers size) (sym (ended_ok (Put ((a.0).0).0 ((a.0).0).1 (b.0).0) (b.0).1 line b.2)) (hex_got 512 (a.0).1 b.0 b.1)

pub show_gives : (size : ℕ) (ws : List (List ℕ)) (line : OpLine) → show_form ws ≡ Ok line → Numbers size line
unfolding show_form
show_gives size ws line h = let a = ok_of (value seg_in ws) _ line h in subst (Numbers size) (sym (ended_ok (Show (a.0).0) (a.0).1 line a.2)) tt

pub seal_gives : (size : ℕ) (ws : List (List ℕ)) (line : OpLine) → seal_form ws ≡ Ok line → Numbers size line
unfolding seal_form
seal_gives size ws line h =
    let a = ok_of (value word32 ws) _ line h in
    let b = ok_of (value segs_in (a.0).1) _ line a.2 in
    let c = ok_of (value segs_in (b.0).1) _ line b.2 in
    let d = ok_of (value tag_in (c.0).1) _ line c.2 in
    let e = ok_of (value long_tag_in (d.0).1) _ line d.2 in
    let v = value_ok long_tag_in (d.0).1 e.0 e.1 in
    subst (Numbers size) (sym (ended_ok (Seal (a.0).0 (b.0).0 (c.0).0 (d.0).0 (e.0).0) (e.0).1 line e.2)) (tag_got (c.0).1 d.0 d.1, long_tag_ok (e.0).0 v.0 v.1)

pub app_gives : (ws : List (List ℕ)) (app : Option ℕ) → app_form ws ≡ Ok app → IsTag app
unfolding app_form
app_gives [] app h = subst IsTag (sym (ok_same None app h)) tt
app_gives (w ∷ ws) app h =
    let a = ok_of (fixed (codes "app") (w ∷ ws)) _ app h in
    let b = ok_of (value tag_in a.0) _ app a.2 in
    subst IsTag (sym (ended_ok (Some (b.0).0) (b.0).1 app b.2)) (tag_got a.0 b.0 b.1)

pub write_gives : (size : ℕ) (ws : List (List ℕ)) (line : OpLine) → write_form ws ≡ Ok line → Numbers size line
unfolding write_form
write_gives size ws line h =
    let a = ok_of (value word64 ws) _ line h in
    let b = ok_of (value word32 (a.0).1) _ line a.2 in
    let c = ok_of (value segs_in (b.0).1) _ line b.2 in
    let d = ok_of (app_form (c.0).1) _ line c.2 in
    subst (Numbers size) (sym (ok_same (Write (a.0).0 (b.0).0 (c.0).0 d.0) line d.2)) (got64 ws a.0 a.1, app_gives (c.0).1 d.0 d.1)

pub read_gives : (size : ℕ) (ws : List (List ℕ)) (line : OpLine) → read_form ws ≡ Ok line → Numbers size line
unfolding read_form
read_gives size ws line h =
    let a = ok_of (value word64 ws) _ line h in
    let b = ok_of (value word32 (a.0).1) _ line a.2 in
    let c = ok_of (value segs_in (b.0).1) _ line b.2 in
    subst (Numbers size) (sym (ended_ok (Read (a.0).0 (b.0).0 (c.0).0) (c.0).1 line c.2)) (got64 ws a.0 a.1)

pub writepi_gives : (size : ℕ) (ws : List (List ℕ)) (line : OpLine) → writepi_form ws ≡ Ok line → Numbers size line
unfolding writepi_form
writepi_gives size ws line h =
    let a = ok_of (value word64 ws) _ line h in
    let b = ok_of (value word32 (a.0).1) _ line a.2 in
    let c = ok_of (value segs_in (b.0).1) _ line b.2 in
    let d = ok_of (value segs_in (c.0).1) _ line c.2 in
    subst (Numbers size) (sym (ended_ok (WritePi (a.0).0 (b.0).0 (c.0).0 (d.0).0) (d.0).1 line d.2)) (got64 ws a.0 a.1)

pub readpi_gives : (size : ℕ) (ws : List (List ℕ)) (line : OpLine) → readpi_form ws ≡ Ok line → Numbers size line
unfolding readpi_form
readpi_gives size ws line h =
    let a = ok_of (value word64 ws) _ line h in
    let b = ok_of (value word32 (a.0).1) _ line a.2 in
    let c = ok_of (value segs_in (b.0).1) _ line b.2 in
    let d = ok_of (value segs_in (c.0).1) _ line c.2 in
    subst (Numbers size) (sym (ended_ok (ReadPi (a.0).0 (b.0).0 (c.0).0 (d.0).0) (d.0).1 line d.2)) (got64 ws a.0 a.1)

pub change_gives : (size dev lba : ℕ) (b : Bool) (ws : List (List ℕ)) (line : OpLine) → dev < 2 ^ 32 → lba < 2 ^ 64 → change_form size dev lba b ws ≡ Ok line → Numbers size line
unfolding change_form
change_gives size dev lba true ws line d l h =
    let a = ok_of (flip_form size ws) _ line h in
    let f = flip_gives size ws a.0 a.1 in
    subst (Numbers size) (sym (ok_same (Flip dev lba (a.0).0 (a.0).1) line a.2)) (d, l, f.0, f.1, f.2)
change_gives size dev lba false ws line d l h =
    let a = ok_of (value word32 ws) _ line h in
    let b = ok_of (value word64 (a.0).1) _ line a.2 in
    subst (Numbers size) (sym (ended_ok (Copy dev lba (a.0).0 (b.0).0) (b.0).1 line b.2)) (d, l, got32 ws a.0 a.1, got64 (a.0).1 b.0 b.1)

pub overwrite_gives : (size : ℕ) (ws : List (List ℕ)) (line : OpLine) → overwrite_form size ws ≡ Ok line → Numbers size line
unfolding overwrite_form
overwrite_gives size ws line h =
    let a = ok_of (value word32 ws) _ line h in
    let b = ok_of (value word64 (a.0).1) _ line a.2 in
    let c = ok_of (either (codes "flip") (codes "from") (b.0).1) _ line b.2 in
    change_gives size (a.0).0 (b.0).0 (c.0).0 (c.0).1 line (got32 ws a.0 a.1) (got64 (a.0).1 b.0 b.1) c.2

pub as_line_ok : (r : Result OpLine ScriptKind) (line : ScriptLine) → as_line r ≡ Ok line → (op : OpLine) × (r ≡ Ok op) × (line ≡ AnOp op)
as_line_ok (Ok op) line h = (op, refl, ok_same (AnOp op) line h)
as_line_ok (Err k) line h = absurd (cc)
