-- One more tag rewritten in its page, and what a walk so far has rewritten.
use Rattle.std.proofs.Common.{◌≡◌, ℕ, ◌+◌, ◌*◌, ◌<◌, List, ◌++◌, length, ap, ◌∙◌, subst, inl, inr, arith}
use Rattle.std.proofs.lemmas.Bool.{cases_lt}
use Rattle.page_pool.specs.declared.segs.Seg.{Seg}
use Rattle.page_pool.specs.Cuts.{past}
use Rattle.page_pool.specs.Places.{places_in, range_of, NoneTwice}
use Rattle.page_pool.specs.Pages.{bytes_at, bytes_in, OthersStay, Wrote}
use Rattle.page_pool.proofs.Ranges.{apart-ranges}
use Rattle.page_pool.proofs.Spreads.{bytes_stay, range-ahead, wrote_none}
use Rattle.pi_tuple.specs.declared.tuple.Tuple.{Tuple}
use Rattle.pi_tuple.specs.declared.checks.PiType.{PiType}
use Rattle.pi_tuple.specs.Tuples.{tuple_bytes, tuple_in}
use Rattle.integrity_payload.specs.Payloads.{tuple_places, tuple_of, HoldsTuple}
use Rattle.integrity_payload.proofs.Fills.{joined_next, next_ahead, still_holds, wrote_next}
use Rattle.ref_remap.specs.Remapped.{remapped, remapped_bytes, all_remapped, AreRemapped}
use Rattle.ref_remap.proofs.Tags.{mapped-bytes}

-- the first i tuples from k on are rewritten
pub record Rewrites (old now : List (List ℕ)) (segs : List Seg) (ty : PiType) (k from to i : ℕ) (reader writer : List Seg) : Type 0 where
  pub reader_is : reader ≡ past (8 * (k + i)) segs
  pub writer_is : writer ≡ past (8 * (k + i)) segs
  pub done : AreRemapped old now segs ty k i from to

-- the tuples behind stay as they were
same_tuple : (old now : List (List ℕ)) (segs : List Seg) (k i : ℕ) → NoneTwice (places_in segs) → OthersStay old now (range_of segs (8 * k) (8 * i)) → bytes_at now (tuple_places segs (k + i)) ≡ bytes_at old (tuple_places segs (k + i))
same_tuple old now segs k i once others =
    bytes_stay old now (range_of segs (8 * k) (8 * i)) (tuple_places segs (k + i)) others
    (λ p a b. apart-ranges segs (8 * k) (8 * i) (8 * (k + i)) 8 once (omega arith) p b a)

each_held : (old now new : List (List ℕ)) (segs : List Seg) (ty : PiType) (k from to i j : ℕ) → NoneTwice (places_in segs) → OthersStay now new (range_of segs (8 * (k + i)) 8) →
    ((j : ℕ) → j < i → HoldsTuple now segs (k + j) (remapped ty (from + j) (to + j) (tuple_of old segs (k + j)))) → HoldsTuple new segs (k + i) (remapped ty (from + i) (to + i) (tuple_of old segs (k + i))) → j < i + 1 →
    HoldsTuple new segs (k + j) (remapped ty (from + j) (to + j) (tuple_of old segs (k + j)))
each_held old now new segs ty k from to i j once others held last h = elim (cases_lt j i) [
  | inl l ↦ still_holds now new segs (k + i) (k + j) (remapped ty (from + j) (to + j) (tuple_of old segs (k + j))) (omega arith) once others (held j l)
  | inr l ↦ let e : i ≡ j = omega arith in subst (λ m. HoldsTuple new segs (k + m) (remapped ty (from + m) (to + m) (tuple_of old segs (k + m)))) e last
]

pub rewrites_none : (pool : List (List ℕ)) (segs : List Seg) (ty : PiType) (k from to : ℕ) (reader writer : List Seg) → reader ≡ past (8 * k) segs → writer ≡ past (8 * k) segs → Rewrites pool pool segs ty k from to 0 reader writer
rewrites_none pool segs ty k from to reader writer e f =
    let n : k ≡ k + 0 = omega arith in
    record {
      reader_is = e ∙ ap (λ m. past (8 * m) segs) n;
      writer_is = f ∙ ap (λ m. past (8 * m) segs) n;
      done = record { tuples = λ j h. absurd (omega arith); wrote = wrote_none pool };
    }

pub rewrites_more : (old now new : List (List ℕ)) (segs : List Seg) (ty : PiType) (k from to i : ℕ) (reader reader' writer writer' : List Seg) (bytes : List ℕ) (t : Tuple) →
    NoneTwice (places_in segs) → Rewrites old now segs ty k from to i reader writer → bytes ≡ bytes_in now reader 0 8 → length bytes ≡ 8 → tuple_bytes (tuple_in bytes) ≡ bytes → t ≡ remapped ty (from + i) (to + i) (tuple_in bytes) →
    tuple_in (tuple_bytes t) ≡ t → Wrote now new (range_of writer 0 8) (tuple_bytes t) → reader' ≡ past 8 reader → writer' ≡ past 8 writer →
    Rewrites old new segs ty k from to (i + 1) reader' writer'
rewrites_more old now new segs ty k from to i reader reader' writer writer' bytes t once h read long spelt made back w b c =
    let wrote = subst (λ l. Wrote now new l (tuple_bytes t)) (range-ahead segs writer (8 * (k + i)) 8 h.writer_is) w in
    let old_is : bytes ≡ bytes_at old (tuple_places segs (k + i)) = read ∙ (ap (bytes_at now) (range-ahead segs reader (8 * (k + i)) 8 h.reader_is) ∙ same_tuple old now segs k i once h.done.wrote.others) in
    let t_is : t ≡ remapped ty (from + i) (to + i) (tuple_of old segs (k + i)) = made ∙ ap (λ (l : List ℕ). remapped ty (from + i) (to + i) (tuple_in l)) old_is in
    let last : HoldsTuple new segs (k + i) (remapped ty (from + i) (to + i) (tuple_of old segs (k + i))) =
    subst (λ u. HoldsTuple new segs (k + i) u) t_is (record { bytes = wrote.written; reads = ap tuple_in wrote.written ∙ back }) in
    let mapped : tuple_bytes t ≡ remapped_bytes ty (from + i) (to + i) (bytes_at old (tuple_places segs (k + i))) =
    ap tuple_bytes made ∙ (mapped-bytes ty (from + i) (to + i) bytes long spelt ∙ ap (remapped_bytes ty (from + i) (to + i)) old_is) in
    let all : all_remapped old segs ty k from to i ++ tuple_bytes t ≡ all_remapped old segs ty k from to (i + 1) =
    ap (λ l. all_remapped old segs ty k from to i ++ l) mapped ∙ joined_next (λ j. remapped_bytes ty (from + j) (to + j) (bytes_at old (tuple_places segs (k + j)))) i in
    let n : k + i + 1 ≡ k + (i + 1) = omega arith in
    record {
      reader_is = next_ahead segs reader reader' (k + i) h.reader_is b ∙ ap (λ m. past (8 * m) segs) n;
      writer_is = next_ahead segs writer writer' (k + i) h.writer_is c ∙ ap (λ m. past (8 * m) segs) n;
      done = record {
        tuples = λ j l. each_held old now new segs ty k from to i j once wrote.others h.done.tuples last l;
        wrote = subst (λ l. Wrote old new (range_of segs (8 * k) (8 * (i + 1))) l) all (wrote_next old now new segs k i (all_remapped old segs ty k from to i) (tuple_bytes t) once h.done.wrote wrote);
      };
    }
