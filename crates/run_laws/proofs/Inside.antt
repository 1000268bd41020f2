-- The moves of an op that isn't alone lie in what the op touches, its private pages and its cells of what is found.
use Rattle.std.proofs.Common.{◌≡◌, ◌<◌, ◌≤◌, ◌%◌, ◌/◌, ◌^◌, ℕ, zero, suc, ◌+◌, ◌*◌, Bool, true, false, not, eqb, if◌then◌else◌, List, [], ◌∷◌, ◌++◌, map, drop, refl, sym, ap, ◌∙◌, arith}
use Rattle.std.specs.Prelude.{pos, negsuc, ℤ, nat_abs}
use Rattle.std.proofs.lemmas.Bool.{eqb-true, false≢true, not-false, or_parts}
use Rattle.std.proofs.lemmas.List.{append-nil, drop_at}
use Rattle.fault_schedule.specs.Altered.{shift_of}
use Rattle.fault_schedule.specs.declared.fault.Crossing.TheVariants.{AdapterToTarget, MediumToTarget, TargetToMedium}
use Rattle.page_pool.specs.declared.segs.Seg.{Seg}
use Rattle.page_pool.specs.Cells.{is_in}
use Rattle.range_gate.specs.Cells.{Cells, block_cells, cells_of, in_turn}
use Rattle.integrity_payload.specs.declared.payload.Owner.TheVariants.{Block as OfBlock, App as OfApp}
use Rattle.walk_laws.specs.Passed.{Op, Fetch, FetchPi, Fill, Overwrite, Put, Seal, Show, Wait, Write, WritePi, cells_touched, is_alone, put_seg, reach_of, fetched_cell, stored_cell, moved, stored_lba, wire_lba}
use Rattle.walk_laws.specs.Settings.{Block, Setting, block_of, route}
use Rattle.walk_laws.specs.Steps.{Reads, Seals, Step, Writes, WritesPi, body_of, each_from, frame_at, tuple_of}
use Rattle.walk_laws.specs.UnderMap.{home}
use Rattle.walk_laws.proofs.CalmRuns.{part_length}
use Rattle.run_laws.proofs.Parts.{AllIn, body_part, part_within, tuple_part, none_within}
use Rattle.run_laws.specs.OpsApart.{IsPlaced, is_shifted}
use Rattle.run_laws.specs.ScriptMoves.{all_moves, blocks_from, blocks_of, by_moves, fates_of, lands_in, own_at, room_for, room_of}
use Rattle.run_laws.proofs.Reach.{AllInside, Covers, Reach, Within, block_inside, block_reach, covered, in_both, in_joined, in_left, in_right, inside_both, read_reach, where_on, write_reach}
use Rattle.run_laws.proofs.Turns.{in_map, in_one, in_turn_at, in_turn_part}

-- a request that no shift names
pub still_by : (z : ℤ) → nat_abs z ≡ 0 → z ≡ pos 0
still_by (pos zero) h = refl
still_by (pos (suc n)) h = absurd (omega (arith, h))
still_by (negsuc n) h = absurd (omega (arith, h))

pub still_is : (z : ℤ) → not (eqb (nat_abs z) 0) ≡ false → z ≡ pos 0
still_is z h = still_by z (eqb-true (nat_abs z) 0 (not-false _ h))

unmoved : (a : ℕ) → moved a (pos 0) ≡ a
unmoved a = omega arith

module _ (m : Setting) (b : Block) (h : is_shifted m b.op ≡ false) where
  wire_still : shift_of m.site.faults AdapterToTarget b.op ≡ pos 0
  wire_still = still_is (shift_of m.site.faults AdapterToTarget b.op) (or_parts _ _ h).0

  medium_still : shift_of m.site.faults MediumToTarget b.op ≡ pos 0
  medium_still = still_is (shift_of m.site.faults MediumToTarget b.op) (or_parts _ _ (or_parts _ _ h).1).0

  store_still : shift_of m.site.faults TargetToMedium b.op ≡ pos 0
  store_still = still_is (shift_of m.site.faults TargetToMedium b.op) (or_parts _ _ (or_parts _ _ h).1).1

  wire_is : wire_lba m.site.faults (route m b) ≡ (route m b).lba
  wire_is = ap (moved (route m b).lba) wire_still ∙ unmoved (route m b).lba

  stored_is : stored_lba m.site.faults (route m b) ≡ (route m b).lba
  stored_is = ap (λ a. moved a (shift_of m.site.faults TargetToMedium b.op)) wire_is ∙ ap (moved (route m b).lba) store_still ∙ unmoved (route m b).lba

  pub stored_home : stored_cell m.site (route m b) ≡ home m b.virt
  stored_home = ap (m.site.cell (route m b).dev) stored_is

  pub fetched_home : fetched_cell m.site (route m b) ≡ home m b.virt
  fetched_home =
      ap (m.site.cell (route m b).dev)
      (ap (λ a. moved a (shift_of m.site.faults MediumToTarget b.op)) wire_is ∙ ap (moved (route m b).lba) medium_still ∙ unmoved (route m b).lba)

-- cells of pages, and private ones behind them
abbrev pub with_own : Cells → List ℕ → Cells
with_own f own = record { reads = f.reads ++ (f.writes ++ own); writes = f.writes ++ own }

-- what all moves of an op reach
abbrev pub op_reach : Setting → (from fate : ℕ) → Op → Reach
op_reach m from fate op =
    let homes = block_cells (reach_of op) in
    let found = in_turn fate (fates_of op) in
    record {
      bytes = with_own (cells_touched op) (in_turn from (room_of m op));
      blocks = record { reads = map (home m) homes.reads ++ map (home m) homes.writes; writes = map (home m) homes.writes };
      logs = record { reads = map (home m) homes.reads ++ map (home m) homes.writes; writes = map (home m) homes.writes };
      fates = record { reads = found; writes = found };
    }

pub room_enough : (n : ℕ) → 8 * n ≤ 4096 * ((n + 511) / 512)
room_enough n = omega arith

module _ (m : Setting) where
  own_inside : (dix : Bool) (from k n : ℕ) → k < n → AllIn (where_on dix (own_at from k)) (in_turn from (if dix then room_for n else 0))
  own_inside true from k n l = in_turn_part from (room_for n) (from + 8 * k) 8 (omega arith) (let e = room_enough n in omega (arith, e, l))
  own_inside false from k n l = none_within []

  pub landing_block : (dix : Bool) (to own : List ℕ) → lands_in OfBlock dix to own ≡ to ++ where_on dix own
  landing_block true to own = refl
  landing_block false to own = sym (append-nil to)

  in_second : (x : ℕ) (xs ys : List ℕ) → is_in x ys ≡ true → AllIn (x ∷ []) (xs ++ ys)
  in_second x xs ys h = in_both (x ∷ []) ys (xs ++ ys) (in_one x ys h) (in_right xs ys)

  -- a block of a write and of a read, in what their op reaches
  write_covered : (b : Block) (reads writes : List ℕ) (bytes homes : Cells) (found : List ℕ) → is_shifted m b.op ≡ false → is_in b.virt homes.writes ≡ true → Within (record { reads = reads; writes = writes }) bytes →
      Covers (record {
        bytes = bytes;
        blocks = record { reads = map (home m) homes.reads ++ map (home m) homes.writes; writes = map (home m) homes.writes };
        logs = record { reads = map (home m) homes.reads ++ map (home m) homes.writes; writes = map (home m) homes.writes };
        fates = record { reads = found; writes = found };
      }) (write_reach m b reads writes)
  write_covered b reads writes bytes homes found s v w =
      let at = in_map (home m) b.virt homes.writes v in
      record {
        bytes = w;
        blocks = record { reads = rw (stored_home m b s) (in_second (home m b.virt) (map (home m) homes.reads) (map (home m) homes.writes) at); writes = in_one (stored_cell m.site (route m b)) (map (home m) homes.writes) (rw (stored_home m b s) at) };
        logs = record { reads = in_second (home m b.virt) (map (home m) homes.reads) (map (home m) homes.writes) at; writes = in_one (home m b.virt) (map (home m) homes.writes) at };
        fates = record { reads = none_within found; writes = none_within found };
      }

  read_covered : (b : Block) (at : List ℕ) (fate : ℕ) (bytes homes : Cells) (found : List ℕ) → is_shifted m b.op ≡ false → is_in b.virt homes.reads ≡ true → is_in fate found ≡ true → Within (record { reads = at; writes = at }) bytes →
      Covers (record {
        bytes = bytes;
        blocks = record { reads = map (home m) homes.reads ++ map (home m) homes.writes; writes = map (home m) homes.writes };
        logs = record { reads = map (home m) homes.reads ++ map (home m) homes.writes; writes = map (home m) homes.writes };
        fates = record { reads = found; writes = found };
      }) (read_reach m b at fate)
  read_covered b at fate bytes homes found s v k w =
      let here = in_map (home m) b.virt homes.reads v in
      let seen = map (home m) homes.reads in
      record {
        bytes = w;
        blocks = record { reads = in_both (fetched_cell m.site (route m b) ∷ []) seen (seen ++ map (home m) homes.writes) (in_one (fetched_cell m.site (route m b)) seen (rw (fetched_home m b s) here)) (in_left seen (map (home m) homes.writes)); writes = none_within (map (home m) homes.writes) };
        logs = record { reads = in_both (home m b.virt ∷ []) seen (seen ++ map (home m) homes.writes) (in_one (home m b.virt) seen here) (in_left seen (map (home m) homes.writes)); writes = none_within (map (home m) homes.writes) };
        fates = record { reads = in_one fate found k; writes = in_one fate found k };
      }

  blocks_inside : (r : Reach) (from fate k count : ℕ) (f : ℕ → Step) → ((j : ℕ) → j < k + count → AllInside r (by_moves m (own_at from j) (fate + j) (f j)).moves) → AllInside r (all_moves (blocks_from m from fate k (each_from k count f)))
  blocks_inside r from fate k zero f h = tt
  blocks_inside r from fate k (suc count) f h =
      inside_both r (by_moves m (own_at from k) (fate + k) (f k)).moves (all_moves (blocks_from m from fate (suc k) (each_from (suc k) count f))) (h k (omega arith))
      (blocks_inside r from fate (suc k) count f (λ j l. h j (omega (arith, l))))

  -- the cells of a block's data and tuple, in their lists
  body_in : (body : List Seg) (k : ℕ) → AllIn (body_of m.size body k) (cells_of body)
  body_in body k = rw (body_part m.size body k) (part_within m.size (k * m.size) (cells_of body))

  tuple_in : (tuples : List Seg) (k : ℕ) → AllIn (tuple_of tuples k) (cells_of tuples)
  tuple_in tuples k = rw (tuple_part tuples k) (part_within 8 (8 * k) (cells_of tuples))

  both_ways : (at writes own reads : List ℕ) → AllIn at (writes ++ own) → Within (record { reads = at; writes = at }) (record { reads = reads ++ (writes ++ own); writes = writes ++ own })
  both_ways at writes own reads h = record { reads = in_both at (writes ++ own) (reads ++ (writes ++ own)) h (in_right reads (writes ++ own)); writes = h }

  pub op_inside : (bytes from fate i : ℕ) (op : Op) → IsPlaced m bytes op → is_alone op (is_shifted m i) ≡ false → AllInside (op_reach m from fate op) (all_moves (blocks_of m from fate i op))
  op_inside bytes from fate i (Fill seg byte) h s = (record { bytes = record { reads = none_within (cells_of (seg ∷ []) ++ []); writes = in_left (cells_of (seg ∷ [])) [] }; blocks = only; logs = only; fates = only }, tt) where
    only : Within (record { reads = []; writes = [] }) (record { reads = []; writes = [] })
    only = record { reads = none_within []; writes = none_within [] }
  op_inside bytes from fate i (Put page off values) h s = (
    record { bytes = record { reads = none_within (cells_of (put_seg page off values ∷ []) ++ []); writes = in_left (cells_of (put_seg page off values ∷ [])) [] }; blocks = only; logs = only; fates = only },
    tt,
  ) where
    only : Within (record { reads = []; writes = [] }) (record { reads = []; writes = [] })
    only = record { reads = none_within []; writes = none_within [] }
  op_inside bytes from fate i (Show seg) h s = (record { bytes = record { reads = in_left (cells_of (seg ∷ [])) []; writes = none_within [] }; blocks = only; logs = only; fates = only }, tt) where
    only : Within (record { reads = []; writes = [] }) (record { reads = []; writes = [] })
    only = record { reads = none_within []; writes = none_within [] }
  op_inside bytes from fate i (Seal n body tuples app rtag) h s =
      blocks_inside (op_reach m from fate (Seal n body tuples app rtag)) from fate 0 n (λ k. Seals (body_of m.size body k) (tuple_of tuples k) app ((rtag + k) % 2 ^ 32)) (λ j l. (
        record {
          bytes = record {
            reads = in_both (body_of m.size body j) (cells_of body) (cells_of body ++ (cells_of tuples ++ [])) (body_in body j) (in_left (cells_of body) (cells_of tuples ++ []));
            writes = in_both (tuple_of tuples j) (cells_of tuples) (cells_of tuples ++ []) (tuple_in tuples j) (in_left (cells_of tuples) []);
          };
          blocks = only;
          logs = only;
          fates = only;
        },
        tt,
      ))
    where
      only : Within (record { reads = []; writes = [] }) (record { reads = []; writes = [] })
      only = record { reads = none_within []; writes = none_within [] }
  op_inside bytes from fate i (Write v n body app) h s =
      let op = Write v n body app in
      let own = in_turn from (room_of m op) in
      let big = op_reach m from fate op in
      blocks_inside big from fate 0 n (λ k. Writes (block_of i v k) app (body_of m.size body k)) (λ j l.
      let step = Writes (block_of i v j) app (body_of m.size body j) in
      let mine = where_on m.mode.dix (own_at from j) in
      let inside = own_inside m.mode.dix from j n (omega (arith, l)) in
      covered big (block_reach m (own_at from j) (fate + j) step) (by_moves m (own_at from j) (fate + j) step).moves
      (write_covered (block_of i v j) (body_of m.size body j ++ mine) mine big.bytes (record { reads = []; writes = in_turn v n }) (in_turn fate n) s (in_turn_at v n j (omega (arith, l))) (record {
        reads = in_joined (body_of m.size body j) mine (cells_of body ++ own)
            (in_both (body_of m.size body j) (cells_of body) (cells_of body ++ own) (body_in body j) (in_left (cells_of body) own))
            (in_both mine own (cells_of body ++ own) inside (in_right (cells_of body) own));
        writes = inside;
      }))
      (block_inside m (own_at from j) (fate + j) step))
  op_inside bytes from fate i (Fetch v n body) h s =
      let op = Fetch v n body in
      let own = in_turn from (room_of m op) in
      let big = op_reach m from fate op in
      blocks_inside big from fate 0 n (λ k. Reads (block_of i v k) OfBlock (body_of m.size body k)) (λ j l.
      let step = Reads (block_of i v j) OfBlock (body_of m.size body j) in
      let mine = where_on m.mode.dix (own_at from j) in
      let to = lands_in OfBlock m.mode.dix (body_of m.size body j) (own_at from j) in
      covered big (block_reach m (own_at from j) (fate + j) step) (by_moves m (own_at from j) (fate + j) step).moves
      (read_covered (block_of i v j) to (fate + j) big.bytes (record { reads = in_turn v n; writes = [] }) (in_turn fate n) s (in_turn_at v n j (omega (arith, l))) (in_turn_at fate n j (omega (arith, l)))
      (both_ways to (cells_of body) own [] (rw (landing_block m.mode.dix (body_of m.size body j) (own_at from j)) (in_joined (body_of m.size body j) mine (cells_of body ++ own)
      (in_both (body_of m.size body j) (cells_of body) (cells_of body ++ own) (body_in body j) (in_left (cells_of body) own))
      (in_both mine own (cells_of body ++ own) (own_inside m.mode.dix from j n (omega (arith, l))) (in_right (cells_of body) own))))))
      (block_inside m (own_at from j) (fate + j) step))
  op_inside bytes from fate i (WritePi v n body tuples) h s =
      let op = WritePi v n body tuples in
      let big = op_reach m from fate op in
      blocks_inside big from fate 0 n (λ k. WritesPi (block_of i v k) (frame_at m.size body tuples k)) (λ j l.
      let front = body_of m.size body j in
      let tuple = tuple_of tuples j in
      let step = WritesPi (block_of i v j) (front ++ tuple) in
      let behind = drop_at front tuple m.size (part_length body m.size j n h.blocks.0.bytes_are (omega (arith, l))) in
      let tuple_within = in_both tuple (cells_of tuples) (cells_of tuples ++ []) (tuple_in tuples j) (in_left (cells_of tuples) []) in
      covered big (block_reach m (own_at from j) (fate + j) step) (by_moves m (own_at from j) (fate + j) step).moves
      (write_covered (block_of i v j) (front ++ tuple) (drop m.size (front ++ tuple)) big.bytes (record { reads = []; writes = in_turn v n }) (in_turn fate n) s (in_turn_at v n j (omega (arith, l))) (record {
        reads = in_joined front tuple (cells_of body ++ (cells_of tuples ++ []))
            (in_both front (cells_of body) (cells_of body ++ (cells_of tuples ++ [])) (body_in body j) (in_left (cells_of body) (cells_of tuples ++ [])))
            (in_both tuple (cells_of tuples ++ []) (cells_of body ++ (cells_of tuples ++ [])) tuple_within (in_right (cells_of body) (cells_of tuples ++ [])));
        writes = rw behind tuple_within;
      }))
      (block_inside m (own_at from j) (fate + j) step))
  op_inside bytes from fate i (FetchPi v n body tuples) h s =
      let op = FetchPi v n body tuples in
      let big = op_reach m from fate op in
      let all = cells_of body ++ cells_of tuples in
      blocks_inside big from fate 0 n (λ k. Reads (block_of i v k) OfApp (frame_at m.size body tuples k)) (λ j l.
      let front = body_of m.size body j in
      let tuple = tuple_of tuples j in
      let step = Reads (block_of i v j) OfApp (front ++ tuple) in
      covered big (block_reach m (own_at from j) (fate + j) step) (by_moves m (own_at from j) (fate + j) step).moves
      (read_covered (block_of i v j) (front ++ tuple) (fate + j) big.bytes (record { reads = in_turn v n; writes = [] }) (in_turn fate n) s (in_turn_at v n j (omega (arith, l))) (in_turn_at fate n j (omega (arith, l)))
      (both_ways (front ++ tuple) all [] [] (in_both (front ++ tuple) all (all ++ []) (in_joined front tuple all
      (in_both front (cells_of body) all (body_in body j) (in_left (cells_of body) (cells_of tuples)))
      (in_both tuple (cells_of tuples) all (tuple_in tuples j) (in_right (cells_of body) (cells_of tuples)))) (in_left all []))))
      (block_inside m (own_at from j) (fate + j) step))
  op_inside bytes from fate i (Overwrite dev lba change) h s = absurd (false≢true (sym s))
  op_inside bytes from fate i Wait h s = absurd (false≢true (sym s))
