-- each script that is made from a number keeps the rules
use Rattle.std.proofs.Common.{ℕ, zero, suc, ◌≡◌, inl, ◌+◌, ◌-◌, ◌*◌, ◌%◌, ◌^◌, ◌<◌, ◌≤◌, ◌&&◌, Bool, true, false, not, eqb, ltb, leb, min, List, [], ◌∷◌, length, Some, None, Ok, refl, ap, ◌∙◌, arith}
use Rattle.std.specs.Prelude.{if◌then◌else◌, unwrap_or}
use Rattle.std.proofs.lemmas.Bool.Decides.{nat_tests}
use Rattle.std.proofs.lemmas.Bool.{and_from}
use Rattle.page_pool.specs.declared.segs.Seg.{Seg}
use Rattle.page_pool.specs.Cuts.{cut, past, upto}
use Rattle.script_text.specs.Passed.{Op, Fill, Show, Write, Fetch}
use Rattle.script_lines.specs.declared.kind.ScriptKind.TheVariants.{BadRange, BadSegments}
use Rattle.script_text.specs.Generator.{after_op, big, big_entries, drawn, next_state, numbers_from, op_from, ops_from, page_start, schedule_from}
use Rattle.script_text.specs.Ops.{data_fault, is_body, unless, where_inside}
use Rattle.script_text.specs.Rules.{is_count, request_blocks}
use Rattle.script_text.specs.Segments.{are_few_each, few_from, is_inside}
use Rattle.script_laws.specs.Keeping.{Each, IsChoice, IsEntry, IsOp, IsTag, blocks_of}
use Rattle.script_laws.specs.Lines.{line_of, tag_of}
use Rattle.script_laws.proofs.Keeping.{KeepsAll}
use Rattle.script_laws.proofs.Held.{tag_twice}

drawn_below : (m x : ℕ) → 1 ≤ m → drawn m x < m
drawn_below m x h = omega arith

upto_one : (most : ℕ) (s : Seg) → length (upto most (s ∷ [])) ≤ 1
upto_one most s = by (ltb 0 (min s.len most))
  where
    by : (b : Bool) → length {A = Seg} (if b then record { page = s.page; off = s.off; len = min s.len most } ∷ [] else []) ≤ 1
    by true = omega arith
    by false = omega arith

upto_few : (most : ℕ) (segs : List Seg) → length segs ≤ 1 → length (upto most segs) ≤ 4
upto_few most [] h = omega arith
upto_few most (s ∷ []) h = let u = upto_one most s in omega (arith, u)
upto_few most (s ∷ t ∷ segs) h = absurd (omega (arith, h))

past_few : (at : ℕ) (s : Seg) → length (past at (s ∷ [])) ≤ 1
past_few at s = by (ltb at s.len)
  where
    by : (b : Bool) → length {A = Seg} (if b then record { page = s.page; off = s.off + at; len = s.len - at } ∷ [] else []) ≤ 1
    by true = omega arith
    by false = omega arith

is_four : (n : ℕ) → n ≤ 4 → leb n 4 ≡ true
is_four n h = grind (arith, nat_tests)

few_of_one : (size at n : ℕ) (s : Seg) → few_from size at n (s ∷ []) ≡ true
few_of_one size at zero s = refl
few_of_one size at (suc n) s = and_from (leb (length (cut (s ∷ []) at size)) 4) (few_from size (at + size) n (s ∷ [])) (is_four (length (cut (s ∷ []) at size)) (upto_few size (past at (s ∷ [])) (past_few at s))) (few_of_one size (at + size) n s)

inside_one : (page len : ℕ) → page < 64 → 1 ≤ len → len ≤ 4096 → is_inside 64 (page_start page len) ≡ true
inside_one page len p l m = grind (arith, nat_tests)

same_total : (n : ℕ) → eqb (512 * n + 0) (512 * n) ≡ true
same_total n = grind (arith, nat_tests)

body_is : (page n : ℕ) → page < 64 → 1 ≤ n → n ≤ 8 → is_body 64 512 n (page_start page (512 * n) ∷ []) ≡ true
body_is page n p l m =
    and_from (is_inside 64 (page_start page (512 * n)) && true) (eqb (512 * n + 0) (512 * n) && are_few_each 512 n (page_start page (512 * n) ∷ []))
    (and_from (is_inside 64 (page_start page (512 * n))) true (inside_one page (512 * n) p (omega (arith, l)) (omega (arith, m))) refl)
    (and_from (eqb (512 * n + 0) (512 * n)) (are_few_each 512 n (page_start page (512 * n) ∷ [])) (same_total n) (few_of_one 512 0 n (page_start page (512 * n))))

count_is : (n : ℕ) → 1 ≤ n → n ≤ 8 → is_count n ≡ true
count_is n l m = grind (arith, nat_tests)

no_data_fault : (page n : ℕ) → page < 64 → 1 ≤ n → n ≤ 8 → data_fault 64 512 n (page_start page (512 * n) ∷ []) ≡ None
no_data_fault page n p l m =
    ap (λ b. if not b then Some BadRange else (if not (is_body 64 512 n (page_start page (512 * n) ∷ [])) then Some BadSegments else None)) (count_is n l m) ∙ ap (λ b. if not b then Some BadSegments else None) (body_is page n p l m)

tag_fits : (app : ℕ) → app < 2 ^ 16 → (b : Bool) → IsTag (if b then None else Some app)
tag_fits app h true = tt
tag_fits app h false = h

record IsBig (op : Op) : Type 0 where
  is_op : IsOp true 64 512 op
  blocks : request_blocks (line_of op) ≤ 8

fill_big : (page byte : ℕ) → page < 64 → byte < 256 → IsBig (Fill (page_start page 4096) byte)
fill_big page byte p b = record {
  is_op = record { rules = ap (λ b. where_inside b (Fill (page_start page 4096) byte)) (inside_one page 4096 p (omega arith) (omega arith)); integrity = refl; ranges = b };
  blocks = omega arith;
}

show_big : (page : ℕ) → page < 64 → IsBig (Show (page_start page 16))
show_big page p = record {
  is_op = record { rules = ap (λ b. where_inside (b && true) (Show (page_start page 16))) (inside_one page 16 p (omega arith) (omega arith)); integrity = refl; ranges = tt };
  blocks = omega arith;
}

fetch_big : (v n page : ℕ) → v < 2 ^ 64 → 1 ≤ n → n ≤ 8 → page < 64 → IsBig (Fetch v n (page_start page (512 * n) ∷ []))
fetch_big v n page f l m p = record {
  is_op = record { rules = ap (λ k. unless k (Fetch v n (page_start page (512 * n) ∷ []))) (no_data_fault page n p l m); integrity = refl; ranges = f };
  blocks = m;
}

write_big : (v n page tag : ℕ) → v < 2 ^ 64 → 1 ≤ n → n ≤ 8 → page < 64 → tag < 2 ^ 16 → IsBig (Write v n (page_start page (512 * n) ∷ []) tag)
write_big v n page tag f l m p t = record {
  is_op = record {
    rules =
        ap (λ k. unless k (Write v n (page_start page (512 * n) ∷ []) (unwrap_or (tag_of tag) 0))) (no_data_fault page n p l m) ∙ ap (λ x. Ok (Write v n (page_start page (512 * n) ∷ []) x)) (tag_twice tag);
    integrity = refl;
    ranges = (f, tag_fits tag t (eqb tag 0));
  };
  blocks = m;
}

op_big : (a b c : Bool) (n v page tag : ℕ) → v < 2 ^ 64 → 1 ≤ n → n ≤ 8 → page < 64 → tag < 2 ^ 16
    → IsBig (if a then Fill (page_start page 4096) (tag % 256) else (if b then Write v n (page_start page (512 * n) ∷ []) tag else (if c then Fetch v n (page_start page (512 * n) ∷ []) else Show (page_start page 16))))
op_big true b c n v page tag f l m p t = fill_big page (tag % 256) p (omega arith)
op_big false true c n v page tag f l m p t = write_big v n page tag f l m p t
op_big false false true n v page tag f l m p t = fetch_big v n page f l m p
op_big false false false n v page tag f l m p t = show_big page p

op_from_big : (x : ℕ) → IsBig (op_from x)
op_from_big x =
    let a = drawn_below 8 (next_state (next_state x)) (omega arith) in
    let b = drawn_below 6136 (next_state (next_state (next_state x))) (omega arith) in
    let c = drawn_below 64 (next_state (next_state (next_state (next_state x)))) (omega arith) in
    let d = drawn_below 65535 (next_state (next_state (next_state (next_state (next_state x))))) (omega arith) in
    op_big (eqb (drawn 4 (next_state x)) 0) (eqb (drawn 4 (next_state x)) 1) (eqb (drawn 4 (next_state x)) 2) (1 + drawn 8 (next_state (next_state x))) (drawn 6136 (next_state (next_state (next_state x))))
    (drawn 64 (next_state (next_state (next_state (next_state x))))) (drawn 65535 (next_state (next_state (next_state (next_state (next_state x)))))) (omega (arith, b)) (omega arith) (omega (arith, a)) c (omega (arith, d))

ops_are : (n x : ℕ) → Each (IsOp true 64 512) (ops_from n x) × (length (ops_from n x) ≡ n) × (blocks_of (ops_from n x) ≤ 8 * n)
ops_are zero x = (tt, refl, omega arith)
ops_are (suc n) x =
    let o = op_from_big x in
    let r = ops_are n (after_op x) in
    let a = o.blocks in
    let b = r.1 in
    let c = r.2 in
    ((o.is_op, r.0), omega (arith, b), omega (arith, a, c))

choices_are : (n x : ℕ) → Each IsChoice (schedule_from n x) × (length (schedule_from n x) ≡ n)
choices_are zero x = (tt, refl)
choices_are (suc n) x =
    let a = drawn_below 65536 (next_state x) (omega arith) in
    let b = drawn_below 9 (next_state (next_state x)) (omega arith) in
    let r = choices_are n (next_state (next_state x)) in
    let c = r.1 in
    (((omega (arith, a), omega (arith, b)), r.0), omega (arith, c))

numbers_are : (n k : ℕ) → length (numbers_from n k) ≡ n
numbers_are zero k = refl
numbers_are (suc n) k = let r = numbers_are n (k + 1) in omega (arith, r)

entries_are : Each IsEntry big_entries
entries_are = (
  (
    omega arith,
    record { low_is = omega arith; high_is = omega arith },
    record { low_is = omega arith; high_is = omega arith },
    record { each = (record { dev_fits = omega arith; at_fits = omega arith }, (record { dev_fits = omega arith; at_fits = omega arith }, tt)); count = record { low_is = omega arith; high_is = omega arith } },
  ),
  ((omega arith, record { low_is = omega arith; high_is = omega arith }, omega arith, omega arith), tt),
)

pub big_keeps : (n seed : ℕ) → n ≤ 1024 → KeepsAll (big n seed)
big_keeps n seed h =
    let o = ops_are n seed in
    let c = choices_are (4 * n) _ in
    let count = o.1 in
    let blocks = o.2 in
    let choices = c.1 in
    let lines = numbers_are n (4 * n + 8) in
    record {
      keeps = record {
        mode_is = record {
          protect_is = record { range = record { low_is = omega arith; high_is = omega arith }; taken_is = refl };
          app_fits = omega arith;
          mask_fits = omega arith;
          unmasked = λ e. refl;
          expects_dix = λ e. refl;
          expects_dif = λ e. refl;
        };
        limits_are = record { blocks = record { low_is = omega arith; high_is = omega arith }; segs = record { low_is = omega arith; high_is = omega arith }; pi_segs = record { low_is = omega arith; high_is = omega arith } };
        pages_are = record { low_is = omega arith; high_is = omega arith };
        block_is = inl refl;
        entries_are = entries_are;
        entries_count = record { low_is = omega arith; high_is = omega arith };
        faults_are = tt;
        faults_count = omega arith;
        choices_are = c.0;
        choices_count = omega (arith, choices, h);
        ops_are = o.0;
        ops_count = omega (arith, count, h);
        blocks_count = omega (arith, blocks, h);
      };
      lined = omega (arith, lines, count);
    }
