-- what a line's numbers are, where its words were read
use Rattle.std.proofs.Common.{ℕ, ◌≡◌, ◌*◌, ◌^◌, ◌<◌, ◌≤◌, ◌&&◌, Bool, true, false, leb, List, [], ◌∷◌, length, Option, Some, None, Result, Ok, Err, refl, sym, subst, ap, ◌∙◌, arith}
use Rattle.std.specs.Prelude.{if◌then◌else◌, slice_index}
use Rattle.std.specs.Int.{Width, from_be_bytes, w16, w32, w8}
use Rattle.std.proofs.lemmas.Bool.Decides.{nat_tests}
use Rattle.hex.specs.Hex.{IsBytes, decode_of, decode_sized}
use Rattle.hex.specs.declared.error.FromHexError.{FromHexError}
use Rattle.hex.proofs.HexLemmas.{decode_of-ok, decode_sized-ok, decode_sized-twice}
use Rattle.script_words.specs.Decimals.{number_in}
use Rattle.script_words.specs.Hexes.{byte_in, bytes_by, hex_in, long_tag_in, tag_in, value_of}
use Rattle.script_words.specs.Numbers.{in_range, number_within}
use Rattle.script_words.specs.Places.{word32, word64}
use Rattle.script_lines.specs.declared.kind.ScriptKind.{ScriptKind}
use Rattle.script_lines.specs.Reading.{◌>>=◌, ended, or_bad, value}
use Rattle.script_laws.specs.Keeping.{IsWithin}

pub ok_of : {A B : Type 0} (r : Result A ScriptKind) (f : A → Result B ScriptKind) (b : B) → (r >>= f) ≡ Ok b → (a : A) × (r ≡ Ok a) × (f a ≡ Ok b)
ok_of (Ok a) f b h = (a, refl, h)
ok_of (Err k) f b h = absurd (cc)

pub ended_ok : {A : Type 0} (a : A) (ws : List (List ℕ)) (b : A) → ended a ws ≡ Ok b → b ≡ a
ended_ok a [] b h = cc
ended_ok a (w ∷ ws) b h = absurd (cc)

pub or_bad_ok : {A : Type 0} (o : Option A) (ws : List (List ℕ)) (p : A × List (List ℕ)) → or_bad o ws ≡ Ok p → o ≡ Some p.0
or_bad_ok None ws p h = absurd (cc)
or_bad_ok (Some a) ws p h = let e : (a, ws) ≡ p = cc in ap (λ (q : _ × List (List ℕ)). Some q.0) e

pub value_ok : {A : Type 0} (read : List ℕ → Option A) (ws : List (List ℕ)) (p : A × List (List ℕ)) → value read ws ≡ Ok p → (w : List ℕ) × (read w ≡ Some p.0)
value_ok read [] p h = absurd (cc)
value_ok read (w ∷ ws) p h = (w, or_bad_ok (read w) ws p h)

ranged : (low high n m : ℕ) (b : Bool) → leb low m && leb m high ≡ b → (if b then Some m else None) ≡ Some n → IsWithin low high n
ranged low high n m true e h = let s : m ≡ n = cc in record { low_is = grind (arith, nat_tests); high_is = grind (arith, nat_tests) }
ranged low high n m false e h = absurd (cc)

in_range_ok : (low high n : ℕ) (o : Option ℕ) → in_range low high o ≡ Some n → IsWithin low high n
in_range_ok low high n None h = absurd (cc)
in_range_ok low high n (Some m) h = ranged low high n m (leb low m && leb m high) refl h

pub within_ok : (low high n : ℕ) (w : List ℕ) → number_within low high w ≡ Some n → IsWithin low high n
within_ok low high n w h = in_range_ok low high n (number_in w) h

pub word32_ok : (n : ℕ) (w : List ℕ) → word32 w ≡ Some n → n < 2 ^ 32
word32_ok n w h = let r = within_ok 0 4294967295 n w h in let m = r.high_is in omega (arith, m)

pub word64_ok : (n : ℕ) (w : List ℕ) → word64 w ≡ Some n → n < 2 ^ 64
word64_ok n w h = let r = within_ok 0 18446744073709551615 n w h in let m = r.high_is in omega (arith, m)

pub within_got : (low high : ℕ) (ws : List (List ℕ)) (p : ℕ × List (List ℕ)) → value (number_within low high) ws ≡ Ok p → IsWithin low high p.0
within_got low high ws p h = let v = value_ok (number_within low high) ws p h in within_ok low high p.0 v.0 v.1

pub got32 : (ws : List (List ℕ)) (p : ℕ × List (List ℕ)) → value word32 ws ≡ Ok p → p.0 < 2 ^ 32
got32 ws p h = let v = value_ok word32 ws p h in word32_ok p.0 v.0 v.1

pub got64 : (ws : List (List ℕ)) (p : ℕ × List (List ℕ)) → value word64 ws ≡ Ok p → p.0 < 2 ^ 64
got64 ws p h = let v = value_ok word64 ws p h in word64_ok p.0 v.0 v.1

-- hexadecimal digits

value_of_ok : (w : Width) (r : Result (List ℕ) FromHexError) (n : ℕ) → value_of w r ≡ Some n → (bytes : List ℕ) × (r ≡ Ok bytes) × (from_be_bytes w bytes ≡ n)
value_of_ok w (Ok bytes) n h = (bytes, refl, cc)
value_of_ok w (Err e) n h = absurd (cc)

sized_bytes : (s : List ℕ) (n : ℕ) (bytes : List ℕ) → decode_sized s n ≡ Ok bytes → IsBytes bytes
sized_bytes s n bytes h = let r = decode_of-ok s bytes (sym (decode_sized-twice s n (decode_sized-ok s n bytes h)) ∙ h) in r.3

two_fit : (bytes : List ℕ) → IsBytes bytes → from_be_bytes w16 bytes < 2 ^ 16
two_fit bytes h = let a : slice_index bytes 0 < 256 = h 0 in let b : slice_index bytes 1 < 256 = h 1 in omega arith

four_fit : (bytes : List ℕ) → IsBytes bytes → from_be_bytes w32 bytes < 2 ^ 32
four_fit bytes h =
    let a : slice_index bytes 0 < 256 = h 0 in let b : slice_index bytes 1 < 256 = h 1 in let c : slice_index bytes 2 < 256 = h 2 in let d : slice_index bytes 3 < 256 = h 3 in omega arith

one_fit : (bytes : List ℕ) → IsBytes bytes → from_be_bytes w8 bytes < 256
one_fit bytes h = let a : slice_index bytes 0 < 256 = h 0 in omega arith

pub tag_ok : (n : ℕ) (w : List ℕ) → tag_in w ≡ Some n → n < 2 ^ 16
tag_ok n w h = let v = value_of_ok w16 (decode_sized w 2) n h in subst (λ k. k < 2 ^ 16) v.2 (two_fit v.0 (sized_bytes w 2 v.0 v.1))

pub long_tag_ok : (n : ℕ) (w : List ℕ) → long_tag_in w ≡ Some n → n < 2 ^ 32
long_tag_ok n w h = let v = value_of_ok w32 (decode_sized w 4) n h in subst (λ k. k < 2 ^ 32) v.2 (four_fit v.0 (sized_bytes w 4 v.0 v.1))

pub byte_ok : (n : ℕ) (w : List ℕ) → byte_in w ≡ Some n → n < 256
byte_ok n w h = let v = value_of_ok w8 (decode_sized w 1) n h in subst (λ k. k < 256) v.2 (one_fit v.0 (sized_bytes w 1 v.0 v.1))

bytes_by_ok : (r : Result (List ℕ) FromHexError) (bytes : List ℕ) → bytes_by r ≡ Some bytes → r ≡ Ok bytes
bytes_by_ok (Ok found) bytes h = let e : found ≡ bytes = cc in ap Ok e
bytes_by_ok (Err e) bytes h = absurd (cc)

hex_by : (b : Bool) (most : ℕ) (w bytes : List ℕ) → leb 1 (length w) && leb (length w) (2 * most) ≡ b → (if b then bytes_by (decode_of w) else None) ≡ Some bytes → IsBytes bytes × (length bytes ≤ most)
hex_by true most w bytes e h =
    let r = decode_of-ok w bytes (bytes_by_ok (decode_of w) bytes h) in
    let len = r.2 in
    let fits : length w ≤ 2 * most = grind (arith, nat_tests) in
    (r.3, omega (arith, len, fits))
hex_by false most w bytes e h = absurd (cc)

pub hex_ok : (most : ℕ) (w bytes : List ℕ) → hex_in most w ≡ Some bytes → IsBytes bytes × (length bytes ≤ most)
hex_ok most w bytes h = hex_by (leb 1 (length w) && leb (length w) (2 * most)) most w bytes refl h

pub hex_got : (most : ℕ) (ws : List (List ℕ)) (p : List ℕ × List (List ℕ)) → value (hex_in most) ws ≡ Ok p → IsBytes p.0 × (length p.0 ≤ most)
hex_got most ws p h = let v = value_ok (hex_in most) ws p h in hex_ok most v.0 p.0 v.1

pub tag_got : (ws : List (List ℕ)) (p : ℕ × List (List ℕ)) → value tag_in ws ≡ Ok p → p.0 < 2 ^ 16
tag_got ws p h = let v = value_ok tag_in ws p h in tag_ok p.0 v.0 v.1
