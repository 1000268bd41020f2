-- Pieces put one after another into bytes: each stands at its place, all else stays.
use Rattle.std.proofs.Common.{◌≡◌, ℕ, zero, suc, ◌+◌, ◌-◌, ◌*◌, ◌<◌, ◌≤◌, ◌⊎◌, List, ◌++◌, length, take, drop, refl, ap, ◌∙◌, sym, subst, inl, inr, add-one, arith, rules}
use Rattle.std.proofs.lemmas.Bool.{cases_lt}
use Rattle.std.proofs.lemmas.List.{drop-drop, drop_at, drop-append-le, length-append, length-drop, length-take-le, places, same_lists, take-append-drop, take-append-le, take_at, take-take, drop-take}
use Rattle.std.proofs.lemmas.Slice.{drop-put_mid}
use Rattle.std.proofs.Math.Nat.{mul-le-mul_right}
use borrow.Rule.Slice.PartMut.{put_mid}
use Rattle.pi_blocks.specs.Puts.{all_put, put_at}
use Rattle.small_laws.proofs.Numbers.{next_block}

-- the pieces are put as a part of a slice is written
pub put_is_part : (at width : ℕ) (piece bytes : List ℕ) → length piece ≡ width → put_at at piece bytes ≡ put_mid at width bytes piece
put_is_part at width piece bytes e = ap (λ (rest : List ℕ). take at bytes ++ (piece ++ rest)) (ap (λ n. drop (at + n) bytes) e ∙ sym (drop-drop width at bytes))

-- what lies behind a piece stays
pub behind : (at n : ℕ) (piece bytes : List ℕ) → at + length piece ≤ n → at ≤ length bytes → drop n (put_at at piece bytes) ≡ drop n bytes
behind at n piece bytes h le = ap (drop n) (put_is_part at (length piece) piece bytes refl) ∙ drop-put_mid at (length piece) bytes piece n h le refl

-- what a loop keeps that puts pieces from the front on: n are put, and from a place on all is as it was
pub record Puts (place : ℕ → ℕ) (piece : ℕ → List ℕ) (n at : ℕ) (old now : List ℕ) : Type 0 where
  pub put : now ≡ all_put place piece n old
  pub rest : drop at now ≡ drop at old

pub puts_none : (place : ℕ → ℕ) (piece : ℕ → List ℕ) (at : ℕ) (old : List ℕ) → Puts place piece 0 at old old
unfolding all_put
puts_none place piece at old = record { put = refl; rest = refl }

pub puts_more : (place : ℕ → ℕ) (piece : ℕ → List ℕ) (n at next : ℕ) (old now new : List ℕ) → Puts place piece n at old now → new ≡ put_at (place n) (piece n) now →
    at ≤ next → place n + length (piece n) ≤ next → place n ≤ length now → Puts place piece (n + 1) next old new
unfolding all_put
puts_more place piece n at next old now new h e le below within =
    let k = next - at in
    let there : at + k ≡ next = omega arith in
    record {
      put = e ∙ (ap (put_at (place n) (piece n)) h.put ∙ ap (λ (m : ℕ). all_put place piece m old) (sym (add-one n)));
      rest = ap (drop next) e ∙ (behind (place n) next (piece n) now below within ∙ (ap (λ m. drop m now) (sym there) ∙ (sym (drop-drop k at now)
          ∙ (ap (drop k) h.rest ∙ (drop-drop k at old ∙ ap (λ m. drop m old) there)))));
    }

-- a stretch behind the place from which on all is as it was
pub same_part : (at place width : ℕ) (old now : List ℕ) → at ≤ place → drop at now ≡ drop at old → take width (drop place now) ≡ take width (drop place old)
same_part at place width old now le e =
    let k = place - at in
    let there : at + k ≡ place = omega arith in
    ap (take width) (ap (λ m. drop m now) (sym there) ∙ (sym (drop-drop k at now) ∙ (ap (drop k) e ∙ (drop-drop k at old ∙ ap (λ m. drop m old) there))))

-- pieces that lie in the bytes, one behind another
pub record Fit (place : ℕ → ℕ) (piece : ℕ → List ℕ) (n total : ℕ) : Type 0 where
  pub inside : (i : ℕ) → i < n → place i + length (piece i) ≤ total
  pub in_turn : (i j : ℕ) → i < j → j < n → place i + length (piece i) ≤ place j

less : (place : ℕ → ℕ) (piece : ℕ → List ℕ) (n total : ℕ) → Fit place piece (suc n) total → Fit place piece n total
less place piece n total h = record {
  inside = λ i lt. h.inside i (omega arith);
  in_turn = λ i j lt under. h.in_turn i j lt (omega arith);
}

pub put-length : (at : ℕ) (piece bytes : List ℕ) → at + length piece ≤ length bytes → length (put_at at piece bytes) ≡ length bytes
put-length at piece bytes h =
    let a = length-append (take at bytes) (piece ++ drop (at + length piece) bytes) in
    let b = length-append piece (drop (at + length piece) bytes) in
    let c = length-take-le at bytes (omega arith) in
    let d = length-drop (at + length piece) bytes in
    omega arith

pub all_put-length : (place : ℕ → ℕ) (piece : ℕ → List ℕ) (n : ℕ) (bytes : List ℕ) → Fit place piece n (length bytes) → length (all_put place piece n bytes) ≡ length bytes
unfolding all_put
all_put-length place piece zero bytes h = refl
all_put-length place piece (suc n) bytes h =
    let so_far = all_put-length place piece n bytes (less place piece n (length bytes) h) in
    let fits = h.inside n (omega arith) in
    put-length (place n) (piece n) (all_put place piece n bytes) (omega arith) ∙ so_far

-- a stretch that shares no byte with a piece stays
put_apart : (from width at : ℕ) (piece bytes : List ℕ) → at + length piece ≤ length bytes → (from + width ≤ at) ⊎ (at + length piece ≤ from) → take width (drop from (put_at at piece bytes)) ≡ take width (drop from bytes)
put_apart from width at piece bytes h (inl below) =
    let front = take at bytes in
    let rest = piece ++ drop (at + length piece) bytes in
    let long : length front ≡ at = length-take-le at bytes (omega arith) in
    let left = length-drop from front in
    let k = at - from in
    let there : from + k ≡ at = omega arith in
    ap (take width) (drop-append-le from front rest (omega arith)) ∙ (take-append-le width (drop from front) rest (omega arith)
    ∙ (ap (λ m. take width (drop from (take m bytes))) (sym there) ∙ (ap (take width) (drop-take from k bytes) ∙ take-take width k (drop from bytes) (omega arith))))
put_apart from width at piece bytes h (inr above) = ap (take width) (behind at from piece bytes above (omega arith))

pub all_put-apart : (place : ℕ → ℕ) (piece : ℕ → List ℕ) (n from width : ℕ) (bytes : List ℕ) → Fit place piece n (length bytes) →
    ((i : ℕ) → i < n → (from + width ≤ place i) ⊎ (place i + length (piece i) ≤ from)) → take width (drop from (all_put place piece n bytes)) ≡ take width (drop from bytes)
unfolding all_put
all_put-apart place piece zero from width bytes h clear = refl
all_put-apart place piece (suc n) from width bytes h clear =
    let fewer = less place piece n (length bytes) h in
    let long = all_put-length place piece n bytes fewer in
    let fits = h.inside n (omega arith) in
    put_apart from width (place n) (piece n) (all_put place piece n bytes) (omega arith) (clear n (omega arith)) ∙ all_put-apart place piece n from width bytes fewer (λ i lt. clear i (omega arith))

-- a piece stands where it was put
put_stands : (at : ℕ) (piece bytes : List ℕ) → at ≤ length bytes → take (length piece) (drop at (put_at at piece bytes)) ≡ piece
put_stands at piece bytes h =
    let rest = drop (at + length piece) bytes in
    ap (take (length piece)) (drop_at (take at bytes) (piece ++ rest) at (length-take-le at bytes h)) ∙ take_at piece rest (length piece) refl

pub all_put-stands : (place : ℕ → ℕ) (piece : ℕ → List ℕ) (n i : ℕ) (bytes : List ℕ) → Fit place piece n (length bytes) → i < n → take (length (piece i)) (drop (place i) (all_put place piece n bytes)) ≡ piece i
unfolding all_put
all_put-stands place piece zero i bytes h lt = absurd (omega arith)
all_put-stands place piece (suc n) i bytes h lt =
    let fewer = less place piece n (length bytes) h in
    let long = all_put-length place piece n bytes fewer in
    let fits = h.inside n (omega arith) in
    let so_far = all_put place piece n bytes in
    elim (cases_lt i n) [
      | inl below ↦ put_apart (place i) (length (piece i)) (place n) (piece n) so_far (omega arith) (inl (h.in_turn i n below (omega arith))) ∙ all_put-stands place piece n i bytes fewer below
      | inr last ↦ let same : n ≡ i = omega arith in subst (λ m. take (length (piece m)) (drop (place m) (put_at (place n) (piece n) so_far)) ≡ piece m) same (put_stands (place n) (piece n) so_far (omega arith))
    ]

-- what stands there already may be put
pub put_same : (at width : ℕ) (bytes : List ℕ) (piece : List ℕ) → piece ≡ take width (drop at bytes) → length piece ≡ width → put_at at piece bytes ≡ bytes
put_same at width bytes piece e long =
    put_is_part at width piece bytes long ∙ (ap (λ (p : List ℕ). take at bytes ++ (p ++ drop width (drop at bytes))) e ∙ (ap (λ (rest : List ℕ). take at bytes ++ rest) (take-append-drop width (drop at bytes)) ∙ take-append-drop at bytes))

pub all_put-same : (place : ℕ → ℕ) (piece : ℕ → List ℕ) (n : ℕ) (bytes : List ℕ) → ((i : ℕ) → i < n → piece i ≡ take (length (piece i)) (drop (place i) bytes)) → all_put place piece n bytes ≡ bytes
unfolding all_put
all_put-same place piece zero bytes h = refl
all_put-same place piece (suc n) bytes h =
    ap (put_at (place n) (piece n)) (all_put-same place piece n bytes (λ i lt. h i (omega arith))) ∙ put_same (place n) (length (piece n)) bytes (piece n) (h n (omega arith)) refl

-- of two pieces of one length at one place the later one stands
put_twice : (at : ℕ) (first later bytes : List ℕ) → length first ≡ length later → at + length first ≤ length bytes → put_at at later (put_at at first bytes) ≡ put_at at later bytes
put_twice at first later bytes e h =
    let front = take_at (take at bytes) (first ++ drop (at + length first) bytes) at (length-take-le at bytes (omega arith)) in
    let rest = behind at (at + length later) first bytes (omega arith) (omega arith) in
    ap (λ (f : List ℕ). f ++ (later ++ drop (at + length later) (put_at at first bytes))) front ∙ ap (λ (r : List ℕ). take at bytes ++ (later ++ r)) rest

-- pieces apart may be put in any order
put_comm : (a b : ℕ) (p q bytes : List ℕ) → a + length p ≤ b → b + length q ≤ length bytes → put_at a p (put_at b q bytes) ≡ put_at b q (put_at a p bytes)
put_comm a b p q bytes h le = same_lists _ _ (search (rules, places)) (λ k d lt. grind (arith, places))

all_past : (place : ℕ → ℕ) (piece : ℕ → List ℕ) (n at : ℕ) (q bytes : List ℕ) → Fit place piece n (length bytes) → ((i : ℕ) → i < n → place i + length (piece i) ≤ at) → at + length q ≤ length bytes →
    all_put place piece n (put_at at q bytes) ≡ put_at at q (all_put place piece n bytes)
unfolding all_put
all_past place piece zero at q bytes h clear le = refl
all_past place piece (suc n) at q bytes h clear le =
    let fewer = less place piece n (length bytes) h in
    let long = all_put-length place piece n bytes fewer in
    ap (put_at (place n) (piece n)) (all_past place piece n at q bytes fewer (λ i lt. clear i (omega arith)) le) ∙ put_comm (place n) at (piece n) q (all_put place piece n bytes) (clear n (omega arith)) (omega arith)

-- pieces put over others of their lengths
pub all_put-over : (place : ℕ → ℕ) (first later : ℕ → List ℕ) (n : ℕ) (bytes : List ℕ) → Fit place first n (length bytes) → ((i : ℕ) → i < n → length (first i) ≡ length (later i)) →
    all_put place later n (all_put place first n bytes) ≡ all_put place later n bytes
unfolding all_put
all_put-over place first later zero bytes h e = refl
all_put-over place first later (suc n) bytes h e =
    let fewer = less place first n (length bytes) h in
    let long = all_put-length place first n bytes fewer in
    let fits = h.inside n (omega arith) in
    let one = e n (omega arith) in
    let so_far = all_put place first n bytes in
    let fit : Fit place later n (length so_far) = record {
      inside = λ i lt. let a = h.inside i (omega arith) in let b = e i (omega arith) in omega arith;
      in_turn = λ i j lt under. let a = h.in_turn i j lt (omega arith) in let b = e i (omega arith) in omega arith;
    } in
    let both = all_put-length place later n so_far fit in
    ap (put_at (place n) (later n)) (all_past place later n (place n) (first n) so_far fit (λ i lt. let a = h.in_turn i n lt (omega arith) in let b = e i (omega arith) in omega arith) (omega arith))
    ∙ (put_twice (place n) (first n) (later n) (all_put place later n so_far) one (omega arith) ∙ ap (put_at (place n) (later n)) (all_put-over place first later n bytes fewer (λ i lt. e i (omega arith))))

-- the same pieces leave the same
pub all_put-cong : (place : ℕ → ℕ) (piece other : ℕ → List ℕ) (n : ℕ) (bytes : List ℕ) → ((i : ℕ) → i < n → piece i ≡ other i) → all_put place piece n bytes ≡ all_put place other n bytes
unfolding all_put
all_put-cong place piece other zero bytes e = refl
all_put-cong place piece other (suc n) bytes e =
    ap (λ (p : List ℕ). put_at (place n) p (all_put place piece n bytes)) (e n (omega arith)) ∙ ap (put_at (place n) (other n)) (all_put-cong place piece other n bytes (λ i lt. e i (omega arith)))

-- pieces of one width at one place of each block
pub fit_in_blocks : (size off width n total : ℕ) (piece : ℕ → List ℕ) → off + width ≤ size → n * size ≤ total → ((i : ℕ) → i < n → length (piece i) ≡ width) → Fit (λ i. i * size + off) piece n total
fit_in_blocks size off width n total piece room le e = record {
  inside = λ i lt. let a : (i + 1) * size ≤ n * size = mul-le-mul_right size (omega arith) in let b = next_block i size in let c = e i lt in omega arith;
  in_turn = λ i j lt under. let a : (i + 1) * size ≤ j * size = mul-le-mul_right size (omega arith) in let b = next_block i size in let c = e i (omega arith) in omega arith;
}
