-- The scripts of a piece suit a stack, and have no fault over their volume.
use Rattle.std.proofs.Common.{◌≡◌, ◌<◌, ◌≤◌, ℕ, zero, suc, ◌+◌, ◌-◌, ◌*◌, Bool, true, false, not, eqb, ◌&&◌, ◌||◌, if◌then◌else◌, List, [], ◌∷◌, ◌++◌, length, replicate, take, drop, Option, Some, None, refl, sym, ap, subst, ◌∙◌, arith, length-append, ◌⊎◌, inl, inr}
use Rattle.std.specs.Prelude.{◌%◌, max, min, nat_le, nat_lt, slice_get}
use Rattle.std.specs.List.{list_any}
use Rattle.std.proofs.lemmas.Bool.{and_from, and_parts, eq-eqb, eqb-true, le-leb, le-ltb, leb-true, lt-ltb, ltb-true, ne_eqb, or_from, or_parts}
use Rattle.std.proofs.lemmas.List.{append-nil, length-drop, length-replicate, length-take}
use Rattle.std.proofs.lemmas.List.Folds.{list_any-append}
use Rattle.pi_tuple.specs.declared.checks.PiType.{PiType}
use Rattle.pi_tuple.specs.declared.checks.PiType.TheVariants.{Zero as TypeZero, One as TypeOne, Two as TypeTwo, Three as TypeThree}
use Rattle.page_pool.specs.declared.segs.Seg.{Seg}
use Rattle.page_pool.specs.Cuts.{behind, cut, front, past, upto}
use Rattle.page_pool.specs.Places.{shares, total}
use Rattle.page_pool.proofs.Cutting.{upto-0}
use Rattle.fault_schedule.specs.declared.fault.FaultKind.{FaultKind}
use Rattle.fault_schedule.specs.declared.fault.FaultKind.TheVariants.{Flip, Shift, Keep, Fail}
use Rattle.fault_schedule.specs.declared.fault.FaultLine.{FaultLine}
use Rattle.stack_ops.specs.declared.op.Op.{Op}
use Rattle.stack_ops.specs.declared.op.Op.TheVariants.{Fetch, FetchPi, Put, Write}
use Rattle.volume_table.specs.Places.{volume_len}
use Rattle.volume_table.specs.Tables.{Table}
use Rattle.volume_table.specs.declared.device.DeviceInfo.{DeviceInfo}
use Rattle.script_lines.specs.declared.kind.ScriptKind.TheVariants.{BadFault, BadRange, BadSegments, SegOverlap, TooMany, NoIntegrity}
use Rattle.script_text.specs.Bindings.{at_line, expect_fault, faults_fault, has_no_tuples, is_at_medium, is_bad_kind, is_bad_on, is_of_medium, is_shift, names_block, ops_fault, or_else, range_fault, request_at, request_by}
use Rattle.script_text.specs.Crossings.{is_read}
use Rattle.rig_api.specs.Frames.{stored_size}
use Rattle.script_text.specs.Ops.{are_tuples, both_fault, data_fault, is_body, unless, where_inside}
use Rattle.script_text.specs.Rules.{is_count}
use Rattle.script_text.specs.Segments.{any_share, are_few_each, are_inside, are_whole_tuples, do_overlap, few_from, is_inside, is_whole}
use Rattle.script_text.specs.declared.fault.ScriptFault.{ScriptFault}
use Rattle.script_text.specs.declared.script.Script.{Script}
use Rattle.script_stack.specs.Passed.{IsStackOp, Each, IsWithin, blocks_of}
use Rattle.mirror_script.specs.MirrorFaults.{names_blocks}
use Rattle.mirror_volume.specs.declared.piece.Piece.{Piece}
use Rattle.mirror_volume.specs.Inner.{first_label, first_virt, own_faults, page_segs, pages_for, puts, read_pi_script, read_script, write_script}
use Rattle.mirror_volume.specs.Legs.{IsReady}
use Rattle.mirror_volume.specs.MirrorScript.{AllFit, IsMirrorScript, IsPiece, IsPieceWithTuples, is_unfit}
use Rattle.mirror_volume.proofs.OnLeg.{pages_least, pages_room}
use Rattle.mirror_volume.proofs.Puts.{puts_length}
use Rattle.mirror_volume.proofs.Renumbered.{eqb_same, is_own, own_line}
use Rattle.script_stack.proofs.Passed.{tag_twice}

-- ---- a limit

-- no more blocks in a group than the request has
fewer : (most n : ℕ) → IsWithin 1 1024 most → 1 ≤ n → IsWithin 1 1024 (min most n)
fewer most n h some = let low = h.low_is in let high = h.high_is in record { low_is = omega (arith, low, some); high_is = omega (arith, high) }

-- ---- pages as segments

segs_length : (page pages bytes : ℕ) → length (page_segs page pages bytes) ≡ pages
segs_length page zero bytes = refl
segs_length page (suc q) bytes = ap suc (segs_length (suc page) q (bytes - 4096))

pub segs_total : (page pages bytes : ℕ) → bytes ≤ 4096 * pages → total (page_segs page pages bytes) ≡ bytes
segs_total page zero bytes l = omega arith
segs_total page (suc q) bytes l = let r = segs_total (suc page) q (bytes - 4096) (omega arith) in omega arith

inside_one : (all page len : ℕ) → page < all → 0 < len → len ≤ 4096 → is_inside all (record { page = page; off = 0; len = len }) ≡ true
inside_one all page len a b c =
    and_from (nat_lt page all) (nat_lt 0 len && nat_le (0 + len) 4096) (lt-ltb page all a) (and_from (nat_lt 0 len) (nat_le (0 + len) 4096) (lt-ltb 0 len b) (le-leb (0 + len) 4096 (omega arith)))

segs_inside : (all page pages bytes : ℕ) → page + pages ≤ all → 4096 * pages < bytes + 4096 → are_inside all (page_segs page pages bytes) ≡ true
segs_inside all page zero bytes l g = refl
segs_inside all page (suc q) bytes l g =
    and_from (is_inside all (record { page = page; off = 0; len = min 4096 bytes })) (are_inside all (page_segs (suc page) q (bytes - 4096)))
    (inside_one all page (min 4096 bytes) (omega arith) (omega arith) (omega arith)) (segs_inside all (suc page) q (bytes - 4096) (omega arith) (omega arith))

-- no two of them share a byte
none_shares : (s : Seg) (page pages bytes : ℕ) → s.page < page → list_any (shares s) (page_segs page pages bytes) ≡ false
none_shares s page zero bytes l = refl
none_shares s page (suc q) bytes l =
    let e : eqb s.page page ≡ false = ne_eqb s.page page (λ e. omega (arith, e)) in
    ap (λ c. (c && (nat_lt (max s.off 0 - s.off) s.len && nat_lt (max s.off 0 - 0) (min 4096 bytes))) || list_any (shares s) (page_segs (suc page) q (bytes - 4096))) e ∙ none_shares s (suc page) q (bytes - 4096) (omega arith)

segs_apart : (page pages bytes : ℕ) → any_share (page_segs page pages bytes) ≡ false
segs_apart page zero bytes = refl
segs_apart page (suc q) bytes =
    ap (λ c. c || any_share (page_segs (suc page) q (bytes - 4096))) (none_shares (record { page = page; off = 0; len = min 4096 bytes }) (suc page) q (bytes - 4096) (omega arith))
    ∙ segs_apart (suc page) q (bytes - 4096)

-- ---- a block lies in at most two of them

one_more : (c : Bool) (s : Seg) (ss : List Seg) → length (if c then s ∷ ss else ss) ≤ suc (length ss)
one_more true s ss = omega arith
one_more false s ss = omega arith

upto_head : (most : ℕ) (s : Seg) (ss : List Seg) → length (upto most (s ∷ ss)) ≤ suc (length (upto (most - s.len) ss))
upto_head most s ss = one_more (nat_lt 0 (min s.len most)) (front most s) (upto (most - s.len) ss)

upto_one : (most page pages bytes : ℕ) → most ≤ 4096 → 4096 * pages < bytes + 4096 → length (upto most (page_segs page pages bytes)) ≤ 1
upto_one most page zero bytes l g = omega arith
upto_one most page (suc zero) bytes l g = upto_head most (record { page = page; off = 0; len = min 4096 bytes }) []
upto_one most page (suc (suc q)) bytes l g =
    let rest = page_segs (suc page) (suc q) (bytes - 4096) in
    let z : most - min 4096 bytes ≡ 0 = omega arith in
    let none : length (upto (most - min 4096 bytes) rest) ≡ 0 = ap length (ap (λ n. upto n rest) z ∙ upto-0 rest) in
    let h = upto_head most (record { page = page; off = 0; len = min 4096 bytes }) rest in omega arith

cut_two : (most at page pages bytes : ℕ) → most ≤ 4096 → 4096 * pages < bytes + 4096 → length (upto most (past at (page_segs page pages bytes))) ≤ 2
cut_two most at page zero bytes l g = omega arith
cut_two most at page (suc q) bytes l g = by (nat_lt at (min 4096 bytes)) (cut_two most (at - min 4096 bytes) (suc page) q (bytes - 4096) l (omega arith)) where
  by : (c : Bool) → length (upto most (past (at - min 4096 bytes) (page_segs (suc page) q (bytes - 4096)))) ≤ 2 →
      length (upto most (if c then behind at (record { page = page; off = 0; len = min 4096 bytes }) ∷ page_segs (suc page) q (bytes - 4096) else past (at - min 4096 bytes) (page_segs (suc page) q (bytes - 4096)))) ≤ 2
  by true rest =
      let h = upto_head most (behind at (record { page = page; off = 0; len = min 4096 bytes })) (page_segs (suc page) q (bytes - 4096)) in
      let o = upto_one (most - (min 4096 bytes - at)) (suc page) q (bytes - 4096) (omega arith) (omega arith) in omega arith
  by false rest = rest

segs_few : (size at n page pages bytes : ℕ) → size ≤ 4096 → 4096 * pages < bytes + 4096 → few_from size at n (page_segs page pages bytes) ≡ true
segs_few size at zero page pages bytes l g = refl
segs_few size at (suc n) page pages bytes l g =
    let c = cut_two size at page pages bytes l g in
    and_from (nat_le (length (cut (page_segs page pages bytes) at size)) 4) (few_from size (at + size) n (page_segs page pages bytes))
    (le-leb (length (cut (page_segs page pages bytes) at size)) 4 (omega (arith, c))) (segs_few size (at + size) n page pages bytes l g)

-- ---- the data of a request

pub block_sizes : (size : ℕ) → (size ≡ 512) ⊎ (size ≡ 4096) → (512 ≤ size) × (size ≤ 4096)
block_sizes size (inl e) = (omega arith, omega arith)
block_sizes size (inr e) = (omega arith, omega arith)

-- at least 512 bytes a block
many_bytes : (size n : ℕ) → 512 ≤ size → 512 * n ≤ n * size
many_bytes size zero l = omega arith
many_bytes size (suc n) l = let r = many_bytes size n l in let e : suc n * size ≡ size + n * size = omega arith in omega arith

record HasData (pages size n : ℕ) (segs : List Seg) : Type 0 where
  fine : data_fault pages size n segs ≡ None
  pages_low : 1 ≤ pages
  pages_high : pages ≤ 256
  few : n ≤ 2048

-- in the first of so many pages
body_inside : (all pages size n : ℕ) → pages ≤ all → size ≤ 4096 → n * size ≤ 4096 * pages → 4096 * pages < n * size + 4096 → is_body all size n (page_segs 0 pages (n * size)) ≡ true
body_inside all pages size n l z up low =
    let segs = page_segs 0 pages (n * size) in
    let turned : n * size ≡ size * n = grind arith in
    and_from (are_inside all segs) (eqb (total segs) (size * n) && are_few_each size n segs) (segs_inside all 0 pages (n * size) (omega (arith, l)) low)
    (and_from (eqb (total segs) (size * n)) (are_few_each size n segs) (eq-eqb (total segs) (size * n) (segs_total 0 pages (n * size) up ∙ turned)) (segs_few size 0 n 0 pages (n * size) z low))

has_data : (size n half : ℕ) (p : Piece) → n ≡ p.n → (size ≡ 512) ⊎ (size ≡ 4096) → IsPiece size half p → HasData (pages_for (n * size)) size n (page_segs 0 (pages_for (n * size)) (n * size))
has_data size n half p e b f =
    let bytes = n * size in
    let pages = pages_for (n * size) in
    let segs = page_segs 0 pages bytes in
    let z = block_sizes size b in
    let z0 = z.0 in
    let z1 = z.1 in
    let some = f.some in
    let many = many_bytes size n z0 in
    let room : bytes ≤ 1048576 = subst (λ k. k * size ≤ 1048576) (sym e) f.room in
    let up = pages_room bytes in
    let low = pages_least bytes in
    let few : n ≤ 2048 = omega arith in
    let most : pages ≤ 256 = omega arith in
    let long = segs_length 0 pages bytes in
    let one : nat_lt 512 (length segs) ≡ false = le-ltb 512 (length segs) (omega arith) in
    let two : is_count n ≡ true = and_from (nat_le 1 n) (nat_le n 2048) (le-leb 1 n (omega arith)) (le-leb n 2048 few) in
    let three : is_body pages size n segs ≡ true = body_inside pages pages size n (omega arith) z1 up low in
    let four : do_overlap segs [] ≡ false = ap any_share (append-nil segs) ∙ segs_apart 0 pages bytes in
    record {
      fine = λ i. if one i then Some TooMany else (if not (two i) then Some BadRange else (if not (three i) then Some BadSegments else (if four i then Some SegOverlap else None)));
      pages_low = omega arith;
      pages_high = most;
      few = few;
    }

-- ---- and tuples in pages behind those of the data

whole_each : (page pages n : ℕ) → are_whole_tuples (page_segs page pages (n * 8)) ≡ true
whole_each page zero n = refl
whole_each page (suc q) n =
    let one : is_whole (record { page = page; off = 0; len = min 4096 (n * 8) }) ≡ true = eq-eqb (min 4096 (n * 8) % 8) 0 (omega arith) in
    let left : (n - 512) * 8 ≡ n * 8 - 4096 = omega arith in
    and_from (is_whole (record { page = page; off = 0; len = min 4096 (n * 8) })) (are_whole_tuples (page_segs (suc page) q (n * 8 - 4096))) one
    (ap (λ b. are_whole_tuples (page_segs (suc page) q b)) (sym left) ∙ whole_each (suc page) q (n - 512))

tuples_inside : (all page pages n : ℕ) → page + pages ≤ all → n * 8 ≤ 4096 * pages → 4096 * pages < n * 8 + 4096 → are_tuples all n (page_segs page pages (n * 8)) ≡ true
tuples_inside all page pages n l up low =
    let segs = page_segs page pages (n * 8) in
    let turned : n * 8 ≡ 8 * n = omega arith in
    and_from (are_inside all segs) (eqb (total segs) (8 * n) && are_whole_tuples segs) (segs_inside all page pages (n * 8) l low)
    (and_from (eqb (total segs) (8 * n)) (are_whole_tuples segs) (eq-eqb (total segs) (8 * n) (segs_total page pages (n * 8) up ∙ turned)) (whole_each page pages n))

-- pages behind others share no byte with them
both_apart : (page pages bytes behind more others : ℕ) → page + pages ≤ behind → any_share (page_segs page pages bytes ++ page_segs behind more others) ≡ false
both_apart page zero bytes behind more others l = segs_apart behind more others
both_apart page (suc q) bytes behind more others l =
    let s : Seg = record { page = page; off = 0; len = min 4096 bytes } in
    let one = page_segs (suc page) q (bytes - 4096) in
    let other = page_segs behind more others in
    let a : list_any (shares s) (one ++ other) ≡ false =
    list_any-append (shares s) one other ∙ (λ i. none_shares s (suc page) q (bytes - 4096) (omega arith) i || none_shares s behind more others (omega (arith, l)) i) in
    ap (λ c. c || any_share (one ++ other)) a ∙ both_apart (suc page) q (bytes - 4096) behind more others (omega (arith, l))

record HasBoth (pages more size n : ℕ) : Type 0 where
  fine : both_fault (pages + more) size n (page_segs 0 pages (n * size)) (page_segs pages more (n * 8)) ≡ None
  pages_low : 1 ≤ pages + more
  pages_high : pages + more ≤ 256
  few : n ≤ 2048

has_both : (size half : ℕ) (p : Piece) → (size ≡ 512) ⊎ (size ≡ 4096) → IsPieceWithTuples size half p → HasBoth (pages_for (p.n * size)) (pages_for (p.n * 8)) size p.n
has_both size half p b f =
    let n = p.n in
    let pages = pages_for (n * size) in
    let more = pages_for (n * 8) in
    let segs = page_segs 0 pages (n * size) in
    let tuples = page_segs pages more (n * 8) in
    let z = block_sizes size b in
    let z0 = z.0 in
    let z1 = z.1 in
    let some = f.some in
    let room = f.room in
    let many = many_bytes size n z0 in
    let up = pages_room (n * size) in
    let low = pages_least (n * size) in
    let up8 = pages_room (n * 8) in
    let low8 = pages_least (n * 8) in
    let few : n ≤ 2048 = omega (arith, room, up, many) in
    let long = segs_length 0 pages (n * size) in
    let long8 = segs_length pages more (n * 8) in
    let one : nat_lt 512 (length segs) ≡ false = le-ltb 512 (length segs) (omega (arith, long, room)) in
    let one8 : nat_lt 512 (length tuples) ≡ false = le-ltb 512 (length tuples) (omega (arith, long8, room)) in
    let two : is_count n ≡ true = and_from (nat_le 1 n) (nat_le n 2048) (le-leb 1 n some) (le-leb n 2048 few) in
    let three : is_body (pages + more) size n segs ≡ true = body_inside (pages + more) pages size n (omega arith) z1 up low in
    let four : are_tuples (pages + more) n tuples ≡ true = tuples_inside (pages + more) pages more n (omega arith) up8 low8 in
    let five : do_overlap segs tuples ≡ false = both_apart 0 pages (n * size) pages more (n * 8) (omega arith) in
    record {
      fine = λ i. if one i || one8 i then Some TooMany else (if not (two i) then Some BadRange else (if not (three i && four i) then Some BadSegments else (if five i then Some SegOverlap else None)));
      pages_low = omega (arith, up, many, some);
      pages_high = room;
      few = few;
    }

-- ---- ops that a stack takes

needs_none : (dix needs : Bool) → dix ≡ true → not dix && needs ≡ false
needs_none dix needs e = ap (λ d. not d && needs) e

write_op : (dix : Bool) (pages size v n app : ℕ) (segs : List Seg) → dix ≡ true → data_fault pages size n segs ≡ None → IsStackOp dix pages size (Write v n segs app)
write_op dix pages size v n app segs d e = record { rules = (λ i. unless (e i) (Write v n segs (tag_twice app i))); integrity = needs_none dix _ d; tag = tt }

read_op : (dix : Bool) (pages size v n : ℕ) (segs : List Seg) → dix ≡ true → data_fault pages size n segs ≡ None → IsStackOp dix pages size (Fetch v n segs)
read_op dix pages size v n segs d e = record { rules = (λ i. unless (e i) (Fetch v n segs)); integrity = needs_none dix _ d; tag = tt }

read_pi_op : (dix : Bool) (pages size v n : ℕ) (segs tuples : List Seg) → dix ≡ true → both_fault pages size n segs tuples ≡ None → IsStackOp dix pages size (FetchPi v n segs tuples)
read_pi_op dix pages size v n segs tuples d e = record { rules = (λ i. unless (e i) (FetchPi v n segs tuples)); integrity = needs_none dix _ d; tag = tt }

puts_taken : (dix : Bool) (all size page pages : ℕ) (bytes : List ℕ) (ops : List Op) → dix ≡ true → page + pages ≤ all → 4096 * pages < length bytes + 4096 → Each (IsStackOp dix all size) ops → Each (IsStackOp dix all size) (puts page pages bytes ++ ops)
puts_taken dix all size page zero bytes ops d l g rest = rest
puts_taken dix all size page (suc q) bytes ops d l g rest =
    let c = length-take 4096 bytes in
    let k = length-drop 4096 bytes in
    let put = Put page 0 (take 4096 bytes) in (
      record {
        rules = ap (λ (c : Bool). where_inside c put) (inside_one all page (length (take 4096 bytes)) (omega arith) (omega arith) (omega arith));
        integrity = needs_none dix false d;
        tag = tt;
      },
      puts_taken dix all size (suc page) q (drop 4096 bytes) ops d (omega arith) (omega arith) rest,
    )

puts_blocks : (page pages : ℕ) (bytes : List ℕ) (ops : List Op) → blocks_of (puts page pages bytes ++ ops) ≡ blocks_of ops
puts_blocks page zero bytes ops = refl
puts_blocks page (suc q) bytes ops = let r = puts_blocks (suc page) q (drop 4096 bytes) ops in omega arith

-- ---- no fault over the volume

has_tuples : (ty : PiType) → names_blocks ty ≡ true → has_no_tuples ty ≡ false
has_tuples TypeZero h = absurd (cc)
has_tuples TypeOne h = refl
has_tuples TypeTwo h = refl
has_tuples TypeThree h = refl

expects : (s : Script) (ty : PiType) → has_no_tuples ty ≡ false → expect_fault s ty ≡ None
expects s ty h = by (Some (record { line = s.expect_line; kind = NoIntegrity })) (not (eqb s.mode.mask 0)) (has_no_tuples ty) h where
  by : (fault : Option ScriptFault) (a b : Bool) → b ≡ false → (if a && b then fault else None) ≡ None
  by fault true b e = ap (λ (c : Bool). if c then fault else None) e
  by fault false b e = refl

good_kind : (t : Table) (devices : List DeviceInfo) (size : ℕ) (earlier : List FaultLine) (f : FaultLine) (reads : Bool) (request : ℕ × ℕ) (kind : FaultKind) → is_shift kind ≡ false → is_unfit (stored_size t.ty size) earlier f kind ≡ false →
    is_bad_kind t devices size earlier f reads request kind ≡ false
good_kind t devices size earlier f reads request (Flip off bytes) h k = refl
good_kind t devices size earlier f reads request (Shift moves) h k = absurd (cc)
good_kind t devices size earlier f reads request (Keep bytes) h k = k
good_kind t devices size earlier f reads request Fail h k = k

good_line : (t : Table) (devices : List DeviceInfo) (size : ℕ) (earlier : List FaultLine) (f : FaultLine) (reads : Bool) (v n : ℕ) → f.k < n → is_shift f.kind ≡ false → is_unfit (stored_size t.ty size) earlier f f.kind ≡ false →
    is_bad_on t devices size earlier f reads (Some (v, n)) ≡ false
good_line t devices size earlier f reads v n l h k = ap (λ (c : Bool). not c || is_bad_kind t devices size earlier f reads (v, n) f.kind) (lt-ltb f.k n l) ∙ good_kind t devices size earlier f reads (v, n) f.kind h k

module _ (p : Piece) (request : ℕ) where
  record IsIn (f : FaultLine) : Type 0 where
    op : f.op ≡ p.op
    low : first_label p ≤ f.k
    high : f.k < first_label p + p.n

  in_piece : (f : FaultLine) → is_own p request f ≡ true → IsIn f
  in_piece f e =
      let a = and_parts (eqb f.op p.op) (nat_le (first_label p) f.k && nat_lt f.k (first_label p + p.n)) e in
      let b = and_parts (nat_le (first_label p) f.k) (nat_lt f.k (first_label p + p.n)) a.1 in
      record { op = eqb-true f.op p.op a.0; low = leb-true (first_label p) f.k b.0; high = ltb-true f.k (first_label p + p.n) b.1 }

  -- of two lines of the piece, the one keeps the other's block in its own script as in the mirror's
  keeps_same : (f x : FaultLine) → IsIn f → IsIn x → names_block request (f.k - first_label p) (own_line p request x) ≡ names_block f.op f.k x
  keeps_same f x a b =
      let op : eqb request request ≡ eqb f.op x.op = eq-eqb request request refl ∙ sym (eq-eqb f.op x.op (a.op ∙ sym b.op)) in
      let la = a.low in
      let lb = b.low in
      let k : eqb (f.k - first_label p) (x.k - first_label p) ≡ eqb f.k x.k = eqb_same (f.k - first_label p) (x.k - first_label p) f.k x.k (λ e. omega (arith, e, la, lb)) (λ e. omega (arith, e)) in
      λ i. op i && (k i && is_of_medium x.kind)

  none_keeps : (f : FaultLine) → IsIn f → (earlier : List FaultLine) → list_any (names_block f.op f.k) earlier ≡ false → list_any (names_block request (f.k - first_label p)) (own_faults p request earlier) ≡ false
  none_keeps f a [] h = refl
  none_keeps f a (x ∷ earlier) h = by (is_own p request x) refl (none_keeps f a earlier q.1) where
    q : (names_block f.op f.k x ≡ false) × (list_any (names_block f.op f.k) earlier ≡ false)
    q = or_parts (names_block f.op f.k x) (list_any (names_block f.op f.k) earlier) h

    by : (c : Bool) → is_own p request x ≡ c → list_any (names_block request (f.k - first_label p)) (own_faults p request earlier) ≡ false →
        list_any (names_block request (f.k - first_label p)) (if c then own_line p request x ∷ own_faults p request earlier else own_faults p request earlier) ≡ false
    by true e rest =
        or_from (names_block request (f.k - first_label p) (own_line p request x)) (list_any (names_block request (f.k - first_label p)) (own_faults p request earlier)) (keeps_same f x a (in_piece x e) ∙ q.0) rest
    by false e rest = rest

  own_fit : (stored : ℕ) (f : FaultLine) → IsIn f → (earlier : List FaultLine) (kind : FaultKind) → is_unfit stored earlier f kind ≡ false → is_unfit stored (own_faults p request earlier) (own_line p request f) kind ≡ false
  own_fit stored f a earlier (Flip off bytes) h = refl
  own_fit stored f a earlier (Shift moves) h = refl
  own_fit stored f a earlier (Keep bytes) h =
      let q = or_parts (not (is_at_medium f.at)) (nat_le stored bytes || list_any (names_block f.op f.k) earlier) h in
      let r = or_parts (nat_le stored bytes) (list_any (names_block f.op f.k) earlier) q.1 in
      or_from (not (is_at_medium f.at)) (nat_le stored bytes || list_any (names_block request (f.k - first_label p)) (own_faults p request earlier)) q.0
      (or_from (nat_le stored bytes) (list_any (names_block request (f.k - first_label p)) (own_faults p request earlier)) r.0 (none_keeps f a earlier r.1))
  own_fit stored f a earlier Fail h = none_keeps f a earlier h

  own_behind : (earlier : List FaultLine) (f : FaultLine) → own_faults p request (earlier ++ (f ∷ [])) ≡ own_faults p request earlier ++ (if is_own p request f then own_line p request f ∷ [] else [])
  own_behind [] f = by (is_own p request f) where
    by : (c : Bool) → (let none : List FaultLine = [] in (if c then own_line p request f ∷ none else none) ≡ none ++ (if c then own_line p request f ∷ none else none))
    by true = refl
    by false = refl
  own_behind (x ∷ earlier) f = by (is_own p request x) (own_behind earlier f) where
    by : (c : Bool) → own_faults p request (earlier ++ (f ∷ [])) ≡ own_faults p request earlier ++ (if is_own p request f then own_line p request f ∷ [] else []) →
        (if c then own_line p request x ∷ own_faults p request (earlier ++ (f ∷ [])) else own_faults p request (earlier ++ (f ∷ [])))
        ≡ (if c then own_line p request x ∷ own_faults p request earlier else own_faults p request earlier) ++ (if is_own p request f then own_line p request f ∷ [] else [])
    by true rest = ap (λ (xs : List FaultLine). own_line p request x ∷ xs) rest
    by false rest = rest

module _ (t : Table) (devices : List DeviceInfo) (size : ℕ) (ops : List Op) (p : Piece) (request v : ℕ) (there : request_at ops request ≡ Some (v, p.n)) where
  own_fine : (faults : List FaultLine) → Each (λ f. is_shift f.kind ≡ false) faults → (earlier : List FaultLine) → AllFit (stored_size t.ty size) earlier faults → (lines : List ℕ) →
      faults_fault t devices size ops (own_faults p request earlier) (own_faults p request faults) lines ≡ None
  own_fine [] h earlier k lines = refl
  own_fine (f ∷ faults) h earlier k lines = by (is_own p request f) refl (own_fine faults h.1 (earlier ++ (f ∷ [])) k.1) lines where
    Fine : (was : List FaultLine) → Type 0
    Fine was = (lines : List ℕ) → faults_fault t devices size ops was (own_faults p request faults) lines ≡ None

    next : (c : Bool) → is_own p request f ≡ c → own_faults p request (earlier ++ (f ∷ [])) ≡ own_faults p request earlier ++ (if c then own_line p request f ∷ [] else [])
    next c e = own_behind p request earlier f ∙ ap (λ (c : Bool). own_faults p request earlier ++ (if c then own_line p request f ∷ [] else [])) e

    by : (c : Bool) → is_own p request f ≡ c → Fine (own_faults p request (earlier ++ (f ∷ []))) → (lines : List ℕ) →
        faults_fault t devices size ops (own_faults p request earlier) (if c then own_line p request f ∷ own_faults p request faults else own_faults p request faults) lines ≡ None
    by true e rest [] = refl
    by true e rest (line ∷ lines) =
        let mine = own_line p request f in
        let was = own_faults p request earlier in
        let its = in_piece p request f e in
        let low = its.low in
        let high = its.high in
        let good : is_bad_on t devices size was mine (is_read ops request) (request_at ops request) ≡ false =
        ap (is_bad_on t devices size was mine (is_read ops request)) there ∙ good_line t devices size was mine (is_read ops request) v p.n (omega arith) h.0 (own_fit p request (stored_size t.ty size) f its earlier f.kind k.0) in
        ap (λ (c : Bool). if c then Some (record { line = line; kind = BadFault }) else faults_fault t devices size ops (was ++ (mine ∷ [])) (own_faults p request faults) lines) good
        ∙ ap (λ (xs : List FaultLine). faults_fault t devices size ops xs (own_faults p request faults) lines) (sym (next true e)) ∙ rest lines
    by false e rest lines =
        ap (λ (xs : List FaultLine). faults_fault t devices size ops xs (own_faults p request faults) lines) (sym (append-nil (own_faults p request earlier)) ∙ sym (next false e)) ∙ rest lines

-- ops behind puts
ops_behind : (t : Table) (devices : List DeviceInfo) (size page pages : ℕ) (bytes : List ℕ) (ops : List Op) → ((lines : List ℕ) → ops_fault t devices size ops lines ≡ None) → (lines : List ℕ) →
    ops_fault t devices size (puts page pages bytes ++ ops) lines ≡ None
ops_behind t devices size page zero bytes ops h lines = h lines
ops_behind t devices size page (suc q) bytes ops h [] = refl
ops_behind t devices size page (suc q) bytes ops h (line ∷ lines) = ops_behind t devices size (suc page) q (drop 4096 bytes) ops h lines

range_fine : (t : Table) (v n : ℕ) → v + n ≤ volume_len t.entries → range_fault t (Some (v, n)) ≡ None
range_fine t v n l = ap (λ (c : Bool). if c then Some BadRange else None) (le-ltb (volume_len t.entries) (v + n) l)

write_fine : (t : Table) (devices : List DeviceInfo) (size v n app : ℕ) (segs : List Seg) → v + n ≤ volume_len t.entries → (lines : List ℕ) → ops_fault t devices size (Write v n segs app ∷ []) lines ≡ None
write_fine t devices size v n app segs l [] = refl
write_fine t devices size v n app segs l (line ∷ lines) = ap (λ o. at_line line o (ops_fault t devices size [] lines)) (range_fine t v n l)

read_fine : (t : Table) (devices : List DeviceInfo) (size v n : ℕ) (segs : List Seg) → v + n ≤ volume_len t.entries → (lines : List ℕ) → ops_fault t devices size (Fetch v n segs ∷ []) lines ≡ None
read_fine t devices size v n segs l [] = refl
read_fine t devices size v n segs l (line ∷ lines) = ap (λ o. at_line line o (ops_fault t devices size [] lines)) (range_fine t v n l)

read_pi_fine : (t : Table) (devices : List DeviceInfo) (size v n : ℕ) (segs tuples : List Seg) → v + n ≤ volume_len t.entries → (lines : List ℕ) → ops_fault t devices size (FetchPi v n segs tuples ∷ []) lines ≡ None
read_pi_fine t devices size v n segs tuples l [] = refl
read_pi_fine t devices size v n segs tuples l (line ∷ lines) = ap (λ o. at_line line o (ops_fault t devices size [] lines)) (range_fine t v n l)

got_behind : (page pages : ℕ) (bytes : List ℕ) (op : Op) → slice_get (puts page pages bytes ++ (op ∷ [])) pages ≡ Some op
got_behind page zero bytes op = refl
got_behind page (suc q) bytes op = got_behind (suc page) q (drop 4096 bytes) op

-- ---- a piece

all_none : (a b c : Option ScriptFault) → a ≡ None → b ≡ None → c ≡ None → or_else a (or_else b c) ≡ None
all_none a b c p q r = λ i. or_else (p i) (or_else (q i) (r i))

within : (half : ℕ) (p : Piece) → p.v + p.n ≤ half → first_virt half p + p.n ≤ half + half
within half p l = by p.on1 where
  by : (c : Bool) → (if c then half + p.v else p.v) + p.n ≤ half + half
  by true = omega arith
  by false = omega arith

module _ (s : Script) (t : Table) (devices : List DeviceInfo) (half : ℕ) (p : Piece) (is : IsMirrorScript s t half) (fits : IsPiece s.block half p) where
  abbrev pages : ℕ
  pages = pages_for (p.n * s.block)

  abbrev segs : List Seg
  segs = page_segs 0 pages (p.n * s.block)

  fine_data : HasData pages s.block p.n segs
  fine_data = has_data s.block p.n half p refl is.block_is fits

  lies : first_virt half p + p.n ≤ volume_len t.entries
  lies = let w = within half p fits.inside in let g = is.long in omega arith

  expected : (s' : Script) → expect_fault s' t.ty ≡ None
  expected s' = expects s' t.ty (has_tuples t.ty is.type_is)

  pub read_ready : IsReady (read_script s half p) t devices
  read_ready =
      let own = own_faults p 1 s.faults in
      let ops : List Op = Fetch (first_virt half p) p.n segs ∷ [] in
      let lines : List ℕ = replicate (length own + 1) 0 in
      let few = fine_data.few in
      record {
        suits = record {
          protect_is = is.protect_is;
          most = fewer s.limits.max_blocks p.n is.most fits.some;
          pages_are = record { low_is = fine_data.pages_low; high_is = fine_data.pages_high };
          block_is = is.block_is;
          ops_are = (read_op s.mode.dix pages s.block (first_virt half p) p.n segs is.dix fine_data.fine, tt);
          ops_count = omega arith;
          blocks_count = omega arith;
        };
        lines = length-replicate {A = ℕ} (length own + 1) 0;
        bound =
            all_none (expect_fault (read_script s half p) t.ty) (faults_fault t devices s.block ops [] own lines) (ops_fault t devices s.block ops (drop (length own) lines)) (expected (read_script s half p))
            (own_fine t devices s.block ops p 1 (first_virt half p) refl s.faults is.flips [] is.keeps lines)
            (read_fine t devices s.block (first_virt half p) p.n segs lies (drop (length own) lines));
      }

  pub write_ready : (app : ℕ) (bytes : List ℕ) → length bytes ≡ p.n * s.block → IsReady (write_script s half p app bytes) t devices
  write_ready app bytes whole =
      let own = own_faults p (suc pages) s.faults in
      let op = Write (first_virt half p) p.n segs app in
      let ops : List Op = puts 0 pages bytes ++ (op ∷ []) in
      let lines : List ℕ = replicate (length own + length ops) 0 in
      let few = fine_data.few in
      let most = fine_data.pages_high in
      let least = pages_least (p.n * s.block) in
      let a = length-append (puts 0 pages bytes) (op ∷ []) in
      let b = puts_length 0 pages bytes in
      let c = puts_blocks 0 pages bytes (op ∷ []) in
      record {
        suits = record {
          protect_is = is.protect_is;
          most = fewer s.limits.max_blocks p.n is.most fits.some;
          pages_are = record { low_is = fine_data.pages_low; high_is = most };
          block_is = is.block_is;
          ops_are = puts_taken s.mode.dix pages s.block 0 pages bytes (op ∷ []) is.dix (omega arith) (omega arith) (write_op s.mode.dix pages s.block (first_virt half p) p.n app segs is.dix fine_data.fine, tt);
          ops_count = omega arith;
          blocks_count = omega arith;
        };
        lines = length-replicate {A = ℕ} (length own + length ops) 0;
        bound =
            all_none (expect_fault (write_script s half p app bytes) t.ty) (faults_fault t devices s.block ops [] own lines) (ops_fault t devices s.block ops (drop (length own) lines)) (expected (write_script s half p app bytes))
            (own_fine t devices s.block ops p (suc pages) (first_virt half p) (ap request_by (got_behind 0 pages bytes op)) s.faults is.flips [] is.keeps lines)
            (ops_behind t devices s.block 0 pages bytes (op ∷ []) (write_fine t devices s.block (first_virt half p) p.n app segs lies) (drop (length own) lines));
      }

-- ---- a piece with its tuples

module _ (s : Script) (t : Table) (devices : List DeviceInfo) (half : ℕ) (p : Piece) (is : IsMirrorScript s t half) (fits : IsPieceWithTuples s.block half p) where
  abbrev data_pages : ℕ
  data_pages = pages_for (p.n * s.block)

  abbrev tuple_pages : ℕ
  tuple_pages = pages_for (p.n * 8)

  pub read_pi_ready : IsReady (read_pi_script s half p) t devices
  read_pi_ready =
      let own = own_faults p 1 s.faults in
      let data_segs = page_segs 0 data_pages (p.n * s.block) in
      let tuples = page_segs data_pages tuple_pages (p.n * 8) in
      let ops : List Op = FetchPi (first_virt half p) p.n data_segs tuples ∷ [] in
      let lines : List ℕ = replicate (length own + 1) 0 in
      let both = has_both s.block half p is.block_is fits in
      let few = both.few in
      let w = within half p fits.inside in
      let g = is.long in
      record {
        suits = record {
          protect_is = is.protect_is;
          most = fewer s.limits.max_blocks p.n is.most fits.some;
          pages_are = record { low_is = both.pages_low; high_is = both.pages_high };
          block_is = is.block_is;
          ops_are = (read_pi_op s.mode.dix (data_pages + tuple_pages) s.block (first_virt half p) p.n data_segs tuples is.dix both.fine, tt);
          ops_count = omega arith;
          blocks_count = omega (arith, few);
        };
        lines = length-replicate {A = ℕ} (length own + 1) 0;
        bound =
            all_none (expect_fault (read_pi_script s half p) t.ty) (faults_fault t devices s.block ops [] own lines) (ops_fault t devices s.block ops (drop (length own) lines))
            (expects (read_pi_script s half p) t.ty (has_tuples t.ty is.type_is))
            (own_fine t devices s.block ops p 1 (first_virt half p) refl s.faults is.flips [] is.keeps lines)
            (read_pi_fine t devices s.block (first_virt half p) p.n data_segs tuples (omega (arith, w, g)) (drop (length own) lines));
      }
