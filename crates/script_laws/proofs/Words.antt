-- what a printed number is read as
use Rattle.std.proofs.Common.{ℕ, pos, negsuc, zero, suc, ◌≡◌, ◌+◌, ◌-◌, ◌*◌, ◌/◌, ◌%◌, ◌^◌, ◌<◌, ◌≤◌, ◌&&◌, Bool, true, false, not, eqb, ltb, leb, List, [], ◌∷◌, ◌++◌, length, Some, None, refl, ap, ◌∙◌, arith, lt-ltb}
use Rattle.std.specs.Prelude.{decimal, if◌then◌else◌, slice_index}
use Rattle.std.specs.Fmt.{signed_decimal}
use Rattle.std.specs.Int.{to_be_bytes, w16, w32, w8}
use Rattle.std.proofs.lemmas.Bool.Decides.{nat_tests}
use Rattle.std.proofs.lemmas.Bool.{le-leb, and_from}
use Rattle.std.proofs.lemmas.Fmt.{decimal_by_steps}
use Rattle.std.proofs.lemmas.Nat.{from_be_bytes-to_be_bytes_2, from_be_bytes-to_be_bytes_4}
use Rattle.std.proofs.lemmas.List.Folds.{list_all-append}
use Rattle.hex.specs.Hex.{IsBytes, decode_of, encode_lower, encode_with, lower_digits}
use Rattle.hex.proofs.HexLemmas.{decode_of-encode_lower, decode_sized-encode_lower, length-encode_with}
use Rattle.script_words.specs.Decimals.{is_digit, is_number, number_in, value_from}
use Rattle.script_words.specs.Hexes.{byte_in, bytes_by, hex_in, long_tag_in, tag_in, value_of}
use Rattle.script_words.specs.Numbers.{as_negative, as_positive, in_range, number_within, signed_within}
use Rattle.script_laws.specs.Clean.{IsWord, avoids, clean, is_filled, is_visible}
use Rattle.script_laws.proofs.Clean.{are_digits, decimal_digits, decimal_filled, digits_avoid, digits_clean}
use Rattle.small_laws.proofs.Tests.{and_first, and_second}

value_more : (m : ℕ) (ds : List ℕ) (d : ℕ) → value_from m (ds ++ (d ∷ [])) ≡ value_from m ds * 10 + (d - 48)
value_more m [] d = refl
value_more m (e ∷ ds) d = value_more (m * 10 + (e - 48)) ds d

abbrev leads : List ℕ → Bool
leads [] = false
leads (d ∷ ds) = not (eqb d 48)

leads_more : (ds es : List ℕ) → leads ds ≡ true → leads (ds ++ es) ≡ true
leads_more [] es h = absurd (cc)
leads_more (d ∷ ds) es h = h

number_from : (ds : List ℕ) → are_digits ds ≡ true → leads ds ≡ true → is_number ds ≡ true
number_from [] g h = absurd (cc)
number_from (d ∷ []) g h = and_first (is_digit d) true g
number_from (d ∷ e ∷ ds) g h = and_from (is_digit d) (not (eqb d 48) && are_digits (e ∷ ds)) (and_first (is_digit d) (are_digits (e ∷ ds)) g) (and_from (not (eqb d 48)) (are_digits (e ∷ ds)) h (and_second (is_digit d) (are_digits (e ∷ ds)) g))

record Spells (n : ℕ) (ds : List ℕ) : Type 0 where
  digits : are_digits ds ≡ true
  number : is_number ds ≡ true
  value : value_from 0 ds ≡ n
  first : 1 ≤ n → leads ds ≡ true

one_digit : (n : ℕ) → n < 10 → is_digit (48 + n) ≡ true
one_digit n h = grind (arith, nat_tests)

one_leads : (n : ℕ) → 1 ≤ n → not (eqb (48 + n) 48) ≡ true
one_leads n h = grind (arith, nat_tests)

spells_one : (n : ℕ) → n < 10 → Spells n ((48 + n) ∷ [])
spells_one n h = record {
  digits = and_from (is_digit (48 + n)) true (one_digit n h) refl;
  number = one_digit n h;
  value = omega arith;
  first = λ l. one_leads n l;
}

spells_more : (n : ℕ) (ds : List ℕ) → 10 ≤ n → Spells (n / 10) ds → Spells n (ds ++ ((48 + n % 10) ∷ []))
spells_more n ds h s =
    let low : n % 10 < 10 = omega arith in
    let lead : leads ds ≡ true = s.first (omega (arith, h)) in
    let all : are_digits (ds ++ ((48 + n % 10) ∷ [])) ≡ true =
    list_all-append is_digit ds ((48 + n % 10) ∷ []) ∙ and_from (are_digits ds) (is_digit (48 + n % 10) && true) s.digits (and_from (is_digit (48 + n % 10)) true (one_digit (n % 10) low) refl) in
    let leads_on : leads (ds ++ ((48 + n % 10) ∷ [])) ≡ true = leads_more ds ((48 + n % 10) ∷ []) lead in
    let v = value_more 0 ds (48 + n % 10) in
    let w = s.value in
    record {
      digits = all;
      number = number_from (ds ++ ((48 + n % 10) ∷ [])) all leads_on;
      value = omega (arith, v, w);
      first = λ l. leads_on;
    }

spells : (n : ℕ) → n < 2 ^ 64 → Spells n (decimal n)
spells n h = decimal_by_steps Spells (λ m l. spells_one m l) (λ m ds l r. spells_more m ds l r) n h

pub number_back : (n : ℕ) → n < 2 ^ 64 → number_in (decimal n) ≡ Some n
number_back n h =
    let s = spells n h in
    let small : ltb (value_from 0 (decimal n)) (2 ^ 64) ≡ true = ap (λ v. ltb v (2 ^ 64)) s.value ∙ lt-ltb n (2 ^ 64) h in
    ap (λ b. if b && ltb (value_from 0 (decimal n)) (2 ^ 64) then Some (value_from 0 (decimal n)) else None) s.number
    ∙ ap (λ b. if b then Some (value_from 0 (decimal n)) else None) small
    ∙ ap Some s.value

in_range_is : (low high n : ℕ) → low ≤ n → n ≤ high → in_range low high (Some n) ≡ Some n
in_range_is low high n l h = ap (λ b. if b then Some n else None) (and_from (leb low n) (leb n high) (le-leb low n l) (le-leb n high h))

pub within_back : (low high n : ℕ) → low ≤ n → n ≤ high → n < 2 ^ 64 → number_within low high (decimal n) ≡ Some n
within_back low high n l h s = ap (in_range low high) (number_back n s) ∙ in_range_is low high n l h

not_hyphen : (b : ℕ) (bs : List ℕ) → avoids 45 (b ∷ bs) ≡ true → eqb b 45 ≡ false
not_hyphen b bs h = grind (arith, nat_tests)

signed_plain : (most : ℕ) (w : List ℕ) (n : ℕ) → is_filled w ≡ true → avoids 45 w ≡ true → number_within 0 most w ≡ Some n → signed_within most w ≡ Some (pos n)
signed_plain most [] n f a e = absurd (cc)
signed_plain most (b ∷ bs) n f a e = ap (λ t. if t then as_negative (number_within 1 most bs) else as_positive (number_within 0 most (b ∷ bs))) (not_hyphen b bs a) ∙ ap as_positive e

pub positive_back : (most n : ℕ) → n ≤ most → n < 2 ^ 64 → signed_within most (signed_decimal (pos n)) ≡ Some (pos n)
positive_back most n h s = signed_plain most (decimal n) n (decimal_filled n s) (digits_avoid 45 (decimal n) (omega arith) (decimal_digits n s)) (within_back 0 most n (omega arith) h s)

pub negative_back : (most n : ℕ) → suc n ≤ most → suc n < 2 ^ 64 → signed_within most (signed_decimal (negsuc n)) ≡ Some (negsuc n)
negative_back most n h s =
    let less : suc n - 1 ≡ n = omega arith in
    ap as_negative (within_back 1 most (suc n) (omega arith) h s) ∙ ap (λ k. Some (negsuc k)) less

-- hexadecimal digits

pub bytes_one : (a : ℕ) → a < 256 → IsBytes (a ∷ [])
bytes_one a g zero = g
bytes_one a g (suc k) = omega arith

bytes_two : (a b : ℕ) → a < 256 → b < 256 → IsBytes (a ∷ b ∷ [])
bytes_two a b g h zero = g
bytes_two a b g h (suc zero) = h
bytes_two a b g h (suc (suc k)) = omega arith

bytes_four : (a b c d : ℕ) → a < 256 → b < 256 → c < 256 → d < 256 → IsBytes (a ∷ b ∷ c ∷ d ∷ [])
bytes_four a b c d g h i j zero = g
bytes_four a b c d g h i j (suc zero) = h
bytes_four a b c d g h i j (suc (suc zero)) = i
bytes_four a b c d g h i j (suc (suc (suc zero))) = j
bytes_four a b c d g h i j (suc (suc (suc (suc k)))) = omega arith

pub two_bytes : (n : ℕ) → IsBytes (to_be_bytes w16 n)
two_bytes n = bytes_two (n / 256 % 256) (n % 256) (omega arith) (omega arith)

pub four_bytes : (n : ℕ) → IsBytes (to_be_bytes w32 n)
four_bytes n = bytes_four (n / 16777216 % 256) (n / 65536 % 256) (n / 256 % 256) (n % 256) (omega arith) (omega arith) (omega arith) (omega arith)

pub tag_back : (n : ℕ) → n < 2 ^ 16 → tag_in (encode_lower (to_be_bytes w16 n)) ≡ Some n
tag_back n h = ap (value_of w16) (decode_sized-encode_lower (to_be_bytes w16 n) 2 refl (two_bytes n)) ∙ ap Some (from_be_bytes-to_be_bytes_2 n h)

pub long_tag_back : (n : ℕ) → n < 2 ^ 32 → long_tag_in (encode_lower (to_be_bytes w32 n)) ≡ Some n
long_tag_back n h = ap (value_of w32) (decode_sized-encode_lower (to_be_bytes w32 n) 4 refl (four_bytes n)) ∙ ap Some (from_be_bytes-to_be_bytes_4 n h)

pub byte_back : (b : ℕ) → b < 256 → byte_in (encode_lower (b ∷ [])) ≡ Some b
byte_back b h = ap (value_of w8) (decode_sized-encode_lower (b ∷ []) 1 refl (bytes_one b h))

pub hex_back : (most : ℕ) (bytes : List ℕ) → IsBytes bytes → 1 ≤ length bytes → length bytes ≤ most → hex_in most (encode_lower bytes) ≡ Some bytes
hex_back most bytes f l h =
    let len = length-encode_with lower_digits bytes in
    ap (λ b. if b then bytes_by (decode_of (encode_lower bytes)) else None) (and_from (leb 1 (length (encode_lower bytes))) (leb (length (encode_lower bytes)) (2 * most)) (le-leb 1 (length (encode_lower bytes)) (omega (arith, len, l))) (le-leb (length (encode_lower bytes)) (2 * most) (omega (arith, len, h))))
    ∙ ap bytes_by (decode_of-encode_lower bytes f)

-- the digits are words

visible_digit : (k : ℕ) → k < 16 → is_visible (slice_index lower_digits k) ≡ true
visible_digit zero h = refl
visible_digit (suc zero) h = refl
visible_digit (suc (suc zero)) h = refl
visible_digit (suc (suc (suc zero))) h = refl
visible_digit (suc (suc (suc (suc zero)))) h = refl
visible_digit (suc (suc (suc (suc (suc zero))))) h = refl
visible_digit (suc (suc (suc (suc (suc (suc zero)))))) h = refl
visible_digit (suc (suc (suc (suc (suc (suc (suc zero))))))) h = refl
visible_digit (suc (suc (suc (suc (suc (suc (suc (suc zero)))))))) h = refl
visible_digit (suc (suc (suc (suc (suc (suc (suc (suc (suc zero))))))))) h = refl
visible_digit (suc (suc (suc (suc (suc (suc (suc (suc (suc (suc zero)))))))))) h = refl
visible_digit (suc (suc (suc (suc (suc (suc (suc (suc (suc (suc (suc zero))))))))))) h = refl
visible_digit (suc (suc (suc (suc (suc (suc (suc (suc (suc (suc (suc (suc zero)))))))))))) h = refl
visible_digit (suc (suc (suc (suc (suc (suc (suc (suc (suc (suc (suc (suc (suc zero))))))))))))) h = refl
visible_digit (suc (suc (suc (suc (suc (suc (suc (suc (suc (suc (suc (suc (suc (suc zero)))))))))))))) h = refl
visible_digit (suc (suc (suc (suc (suc (suc (suc (suc (suc (suc (suc (suc (suc (suc (suc zero))))))))))))))) h = refl
visible_digit (suc (suc (suc (suc (suc (suc (suc (suc (suc (suc (suc (suc (suc (suc (suc (suc k)))))))))))))))) h = absurd (omega arith)

pub hex_clean : (bytes : List ℕ) → IsBytes bytes → clean (encode_lower bytes) ≡ true
unfolding encode_with
hex_clean [] f = refl
hex_clean (b ∷ bytes) f =
    let small : b < 256 = f 0 in
    and_from (is_visible (slice_index lower_digits (b / 16))) (clean (slice_index lower_digits (b % 16) ∷ encode_lower bytes)) (visible_digit (b / 16) (omega (arith, small)))
    (and_from (is_visible (slice_index lower_digits (b % 16))) (clean (encode_lower bytes)) (visible_digit (b % 16) (omega arith)) (hex_clean bytes (λ k. f (suc k))))

pub hex_filled : (bytes : List ℕ) → 1 ≤ length bytes → is_filled (encode_lower bytes) ≡ true
unfolding encode_with
hex_filled [] h = absurd (omega arith)
hex_filled (b ∷ bytes) h = refl

pub hex_word : (bytes : List ℕ) → IsBytes bytes → 1 ≤ length bytes → IsWord (encode_lower bytes)
hex_word bytes f h = record { clean_is = hex_clean bytes f; filled_is = hex_filled bytes h }

pub tag_word : (n : ℕ) → IsWord (encode_lower (to_be_bytes w16 n))
tag_word n = hex_word (to_be_bytes w16 n) (two_bytes n) (omega arith)

pub long_tag_word : (n : ℕ) → IsWord (encode_lower (to_be_bytes w32 n))
long_tag_word n = hex_word (to_be_bytes w32 n) (four_bytes n) (omega arith)

pub byte_word : (b : ℕ) → b < 256 → IsWord (encode_lower (b ∷ []))
byte_word b h = hex_word (b ∷ []) (bytes_one b h) (omega arith)

pub minus_word : (n : ℕ) → suc n < 2 ^ 64 → IsWord (signed_decimal (negsuc n))
minus_word n h = record { clean_is = digits_clean (decimal (suc n)) (decimal_digits (suc n) h); filled_is = refl }
