-- Where the descriptors of a sense begin, and which of them informs.
use Rattle.std.proofs.Common.{◌≡◌, ◌^◌, ◌%◌, Bool, true, false, ltb, if◌then◌else◌, Option, Some, None, IfSome, refl, ℕ, zero, suc, ◌+◌, ◌-◌, ◌<◌, ◌≤◌, ⊎_elim, List, slice_index, sym, subst, ap, ◌∙◌, arith}
use Rattle.std.proofs.lemmas.Bool.{cases_lt}
use Rattle.std.proofs.lemmas.Bool.Decides.{nat_tests}
use Rattle.std.proofs.lemmas.Nat.{from_be_bytes-to_be_bytes_4, from_be_bytes-to_be_bytes_8}
use Rattle.sense_codes.specs.Written.{Fits, descriptor, fixed, written, written_with}
use Rattle.sense_codes.specs.declared.Sense.{Sense}
use Rattle.pi_blocks.specs.Senses.{described, described_with}
use Rattle.pi_blocks.specs.Seen.{Information, Informs, Tells, end_of, place_of}

place-up : (b : List ℕ) (k d : ℕ) → place_of b k ≤ place_of b (d + k)
place-up b k zero = let same : k ≡ 0 + k = omega arith in subst (λ n. place_of b k ≤ place_of b n) same (omega arith)
place-up b k (suc d) =
    let h = place-up b k d in
    let same : suc (d + k) ≡ suc d + k = omega arith in
    let step : place_of b k ≤ place_of b (d + k) + (2 + slice_index b (place_of b (d + k) + 1)) = omega (arith, h) in
    subst (λ n. place_of b k ≤ place_of b n) same step

later-place : (b : List ℕ) (k j : ℕ) → k ≤ j → place_of b k ≤ place_of b j
later-place b k j h = let same : j - k + k ≡ j = omega (arith, h) in subst (λ n. place_of b k ≤ place_of b n) same (place-up b k (j - k))

-- none of the descriptors informs, where none before this one does, and this one doesn't end in time
pub none-informs : (b : List ℕ) (at k : ℕ) → at ≡ place_of b k → ¬ (at + 12 ≤ end_of b) → ((j : ℕ) → j < k → ¬ Informs b j) → (j : ℕ) → ¬ Informs b j
none-informs b at k there over none j informs =
    ⊎_elim (λ (below : j < k). none j below informs) (λ (above : k ≤ j). let up = later-place b k j above in let inside = informs.inside in over (omega (arith, there, up, inside))) (cases_lt j k)

-- one more doesn't inform
pub one-less : (b : List ℕ) (k : ℕ) → ((j : ℕ) → j < k → ¬ Informs b j) → ¬ Informs b k → (j : ℕ) → j < k + 1 → ¬ Informs b j
one-less b k none not j lt = ⊎_elim (λ (below : j < k). none j below) (λ (above : k ≤ j). let same : k ≡ j = omega (arith, lt, above) in subst (λ n. ¬ Informs b n) same not) (cases_lt j k)

-- the next one begins behind it
pub next-place : (b : List ℕ) (at next k : ℕ) → at ≡ place_of b k → next ≡ at + (2 + slice_index b (at + 1)) → next ≡ place_of b (k + 1)
next-place b at next k there e =
    let more : k + 1 ≡ suc k = omega arith in
    e ∙ ap (λ n. n + (2 + slice_index b (n + 1))) there ∙ sym (ap (place_of b) more)

-- ---- what a written sense tells

same-key : (key : ℕ) → key < 16 → key ≡ key % 16
same-key key lt = omega (arith, lt)

in-fixed : (s : Sense) → s.key < 16 → s.info ≡ None → Tells (fixed 0x70 0 s) s false
in-fixed s key none = record { whole = refl; says = record { key = same-key s.key key; asc = refl; ascq = refl; info = none }; deferred_is = refl }

in-fixed-valid : (s : Sense) (info : ℕ) → s.key < 16 → info < 2 ^ 32 → s.info ≡ Some info → Tells (fixed 0xF0 info s) s false
in-fixed-valid s info key lt some = record {
  whole = refl;
  says = record { key = same-key s.key key; asc = refl; ascq = refl; info = some ∙ ap (λ (n : ℕ). Some n) (sym (from_be_bytes-to_be_bytes_4 info lt)) };
  deferred_is = refl;
}

in-descriptor : (s : Sense) (info : ℕ) → s.key < 16 → info < 2 ^ 64 → s.info ≡ Some info → Tells (descriptor info s) s false
in-descriptor s info key lt some = record {
  whole = refl;
  says = record {
    key = same-key s.key key;
    asc = refl;
    ascq = refl;
    info = subst (Information (descriptor info s)) (sym some) (0, record { inside = omega arith; kind = refl; long = refl; valid = omega arith }, λ j below. absurd (omega (arith, below)), sym (from_be_bytes-to_be_bytes_8 info lt));
  };
  deferred_is = refl;
}

by-width : (s : Sense) (info : ℕ) (b : Bool) → ltb info (2 ^ 32) ≡ b → s.key < 16 → info < 2 ^ 64 → s.info ≡ Some info → Tells (if b then fixed 0xF0 info s else descriptor info s) s false
by-width s info true short key lt some = in-fixed-valid s info key (grind (arith, nat_tests)) some
by-width s info false long key lt some = in-descriptor s info key lt some

by-info : (s : Sense) (i : Option ℕ) → s.info ≡ i → s.key < 16 → IfSome i (λ k. k < 2 ^ 64) → Tells (written_with i s) s false
by-info s None none key lt = in-fixed s key none
by-info s (Some info) some key lt = by-width s info (ltb info (2 ^ 32)) refl key lt some

pub written-tells : (s : Sense) → Fits s → Tells (written s) s false
written-tells s fits = by-info s s.info refl fits.key fits.info

-- no descriptor is whole in 8 bytes
in-bare : (s : Sense) → s.key < 16 → s.info ≡ None → Tells (described_with None s) s false
in-bare s key none = record {
  whole = refl;
  says = record {
    key = same-key s.key key;
    asc = refl;
    ascq = refl;
    info = subst (Information (described_with None s)) (sym none) (none-informs (described_with None s) 8 0 refl (λ h. omega (arith, h)) (λ j below. absurd (omega (arith, below))));
  };
  deferred_is = refl;
}

described-by : (s : Sense) (i : Option ℕ) → s.info ≡ i → s.key < 16 → IfSome i (λ k. k < 2 ^ 64) → Tells (described_with i s) s false
described-by s None none key lt = in-bare s key none
described-by s (Some info) some key lt = in-descriptor s info key lt some

pub described-tells : (s : Sense) → Fits s → Tells (described s) s false
described-tells s fits = described-by s s.info refl fits.key fits.info
