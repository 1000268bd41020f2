-- One write of many tuples is a write of each in turn.
use Rattle.std.proofs.Common.{◌≡◌, ◌<◌, ◌≤◌, ℕ, zero, suc, ◌+◌, ◌*◌, false, List, [], ◌∷◌, ◌++◌, length, map, refl, sym, ap, ◌∙◌, arith, length-append, zero-add}
use Rattle.std.proofs.lemmas.List.{length-map}
use Rattle.pi_guard.specs.Guards.{guard_of}
use Rattle.pi_guard.specs.declared.GuardKind.{GuardKind}
use Rattle.pi_tuple.specs.Finds.{own_tag}
use Rattle.pi_tuple.specs.Tuples.{tuple_bytes}
use Rattle.pi_tuple.specs.declared.checks.PiType.{PiType}
use Rattle.range_gate.specs.Passed.{cell, flat, gather, joined, scatter, share_a_cell, AllLieIn, AreWhole, Wrote, bytes_at, Apart, NoneTwice, PageByte, places_in, range_of, total, Seg}
use Rattle.range_gate.proofs.Passed.{apart-cells, read-cells, scatter-append, wrote-cells, apart-lists, apart-ranges, range-sum, length-range, range_stands}
use Rattle.integrity_payload.specs.Payloads.{made_bytes, tuple_places}
use Rattle.ref_remap.specs.Remapped.{AreRemapped, remapped_bytes}
use Rattle.block_path.specs.Acts.{State, act}
use Rattle.block_path.specs.Moves.{in_turn, on_bytes}
use Rattle.block_path.specs.Serial.{plain}
use Rattle.block_path.proofs.Cells.{gather_length, gather_past, share_back}
use Rattle.block_path.proofs.Sizes.{tuple_length}

pub plain_append : {S A : Type 0} (act : A → S → S) (xs ys : List A) (s : S) → plain act (xs ++ ys) s ≡ plain act ys (plain act xs s)
plain_append act [] ys s = refl
plain_append act (x ∷ xs) ys s = plain_append act xs ys (act x s)

map_append : (f : PageByte → ℕ) (xs ys : List PageByte) → map f (xs ++ ys) ≡ map f xs ++ map f ys
map_append f [] ys = refl
map_append f (x ∷ xs) ys = ap (λ rest. f x ∷ rest) (map_append f xs ys)

joined_length : (f : ℕ → List ℕ) (n : ℕ) → ((i : ℕ) → i < n → length (f i) ≡ 8) → length (joined f n) ≡ 8 * n
joined_length f zero h = refl
joined_length f (suc n) h =
    let a = length-append (joined f n) (f n) in
    let b = joined_length f n (λ i l. h i (omega (arith, l))) in
    let c = h n (omega arith) in
    omega (arith, a, b, c)

joined_same : (f g : ℕ → List ℕ) (n : ℕ) → ((i : ℕ) → i < n → f i ≡ g i) → joined f n ≡ joined g n
joined_same f g zero h = refl
joined_same f g (suc n) h = let first = joined_same f g n (λ i l. h i (omega (arith, l))) in let last = h n (omega arith) in cc

module _ (segs : List Seg) (k : ℕ) (reads : ℕ → List ℕ) (f : ℕ → List ℕ → List ℕ) (now : State) where
  -- the cells of tuple i, and of the first n
  abbrev tuple : ℕ → List ℕ
  tuple i = map cell (tuple_places segs (k + i))

  abbrev first : ℕ → List ℕ
  first n = map cell (range_of segs (8 * k) (8 * n))

  abbrev value : ℕ → List ℕ
  value i = f i (gather 0 (reads i) now.bytes)

  next_first : (n : ℕ) → first n ++ tuple n ≡ first (suc n)
  next_first n =
      let a : 8 * k + 8 * n ≡ 8 * (k + n) = omega arith in
      let b : 8 * n + 8 ≡ 8 * suc n = omega arith in
      sym (map_append cell (range_of segs (8 * k) (8 * n)) (tuple_places segs (k + n)))
      ∙ ap (map cell) (ap (λ at. range_of segs (8 * k) (8 * n) ++ range_of segs at 8) (sym a) ∙ sym (range-sum segs (8 * k) (8 * n) 8) ∙ ap (range_of segs (8 * k)) b)

  pub written_in_turn : (n : ℕ) → 8 * (k + n) ≤ total segs → ((i : ℕ) → i < n → length (value i) ≡ 8) → ((i : ℕ) → i < n → share_a_cell (reads i) (first i) ≡ false) →
      (plain act (in_turn (λ i. on_bytes (reads i) (tuple i) (f i)) n) now).bytes ≡ scatter (first n) (joined value n) now.bytes
  written_in_turn zero l eight apart = refl
  written_in_turn (suc n) l eight apart =
      let moves = in_turn (λ i. on_bytes (reads i) (tuple i) (f i)) n in
      let last = on_bytes (reads n) (tuple n) (f n) in
      let so = written_in_turn n (omega (arith, l)) (λ i h. eight i (omega (arith, h))) (λ i h. apart i (omega (arith, h))) in
      let values = joined value n in
      let long : length values ≡ length (first n) =
      (let a = joined_length value n (λ i h. eight i (omega (arith, h))) in
      let b = length-map (range_of segs (8 * k) (8 * n)) cell in
      let c = length-range segs (8 * k) (8 * n) (omega (arith, l)) in
      omega (arith, a, b, c)) in
      ap (λ (s : State). s.bytes) (plain_append act moves (last ∷ []) now)
      ∙ ap (λ bytes. scatter (tuple n) (f n (gather 0 (reads n) bytes)) bytes) so
      ∙ ap (λ seen. scatter (tuple n) (f n seen) (scatter (first n) values now.bytes)) (gather_past 0 (reads n) (first n) values now.bytes (apart n (omega arith)))
      ∙ sym (scatter-append (first n) (tuple n) values (value n) now.bytes long)
      ∙ ap (λ at. scatter at (values ++ value n) now.bytes) (next_first n)

module _ (old new : List (List ℕ)) (segs : List Seg) (now : State) (whole : AreWhole old) (lie : AllLieIn old segs) (once : NoneTwice (places_in segs)) (same : now.bytes ≡ flat old) where
  read : (ps : List Seg) (at len : ℕ) → AllLieIn old ps → gather 0 (map cell (range_of ps at len)) now.bytes ≡ bytes_at old (range_of ps at len)
  read ps at len h = ap (gather 0 (map cell (range_of ps at len))) same ∙ sym (read-cells old (range_of ps at len) whole (range_stands old ps at len h))

  wrote : (at len : ℕ) (bytes : List ℕ) → Wrote old new (range_of segs at len) bytes → scatter (map cell (range_of segs at len)) bytes now.bytes ≡ flat new
  wrote at len bytes h = ap (scatter (map cell (range_of segs at len)) bytes) same ∙ sym (wrote-cells old new (range_of segs at len) bytes whole (range_stands old segs at len lie) h)

  pub mapped_in_turn : (ty : PiType) (k n from to : ℕ) → 8 * (k + n) ≤ total segs → AreRemapped old new segs ty k n from to →
      (plain act (in_turn (λ i. on_bytes (map cell (tuple_places segs (k + i))) (map cell (tuple_places segs (k + i))) (remapped_bytes ty (from + i) (to + i))) n) now).bytes ≡ flat new
  mapped_in_turn ty k n from to l h =
      let cells = λ (i : ℕ). map cell (tuple_places segs (k + i)) in
      let f = λ (i : ℕ). remapped_bytes ty (from + i) (to + i) in
      written_in_turn segs k cells f now n l
      (λ i b. tuple_length ty (from + i) (to + i) (gather 0 (cells i) now.bytes)
      (gather_length 0 (cells i) now.bytes ∙ length-map (tuple_places segs (k + i)) cell ∙ length-range segs (8 * (k + i)) 8 (omega (arith, b, l))))
      (λ i b. share_back (map cell (range_of segs (8 * k) (8 * i))) (cells i)
      (apart-cells (length old) (range_of segs (8 * k) (8 * i)) (tuple_places segs (k + i)) (range_stands old segs (8 * k) (8 * i) lie) (range_stands old segs (8 * (k + i)) 8 lie)
      (apart-ranges segs (8 * k) (8 * i) (8 * (k + i)) 8 once (omega arith))))
      ∙ ap (λ bytes. scatter (map cell (range_of segs (8 * k) (8 * n))) bytes now.bytes) (joined_same _ _ n (λ i b. ap (f i) (read segs (8 * (k + i)) 8 lie)))
      ∙ wrote (8 * k) (8 * n) _ h.wrote

  pub made_in_turn : (body : List Seg) (size : ℕ) (kind : GuardKind) (ty : PiType) (seed app n : ℕ) → AllLieIn old body → Apart (places_in body) (places_in segs) → 8 * n ≤ total segs →
      Wrote old new (range_of segs 0 (8 * n)) (made_bytes old body size kind ty seed app n) →
      (plain act (in_turn (λ i. on_bytes (map cell (range_of body (i * size) size)) (map cell (tuple_places segs i)) (λ bytes. tuple_bytes (record { guard = guard_of kind bytes; app = app; rtag = own_tag ty (seed + i) }))) n) now).bytes ≡ flat new
  made_in_turn body size kind ty seed app n lies apart l h =
      let cells = λ (i : ℕ). map cell (range_of body (i * size) size) in
      let f = λ (i : ℕ) (bytes : List ℕ). tuple_bytes (record { guard = guard_of kind bytes; app = app; rtag = own_tag ty (seed + i) }) in
      ap (λ (g : ℕ → List ℕ). (plain act (in_turn (λ i. on_bytes (cells i) (g i) (f i)) n) now).bytes) (λ j i. map cell (tuple_places segs (sym (zero-add i) j)))
      ∙ written_in_turn segs 0 cells f now n (omega (arith, l)) (λ i b. refl)
      (λ i b. apart-cells (length old) (range_of body (i * size) size) (range_of segs 0 (8 * i)) (range_stands old body (i * size) size lies) (range_stands old segs 0 (8 * i) lie)
      (apart-lists body segs (i * size) size 0 (8 * i) apart))
      ∙ ap (λ bytes. scatter (map cell (range_of segs 0 (8 * n))) bytes now.bytes) (joined_same _ _ n (λ i b. ap (f i) (read body (i * size) size lies)))
      ∙ wrote 0 (8 * n) _ h
