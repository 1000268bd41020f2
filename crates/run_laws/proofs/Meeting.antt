-- Two ops that don't conflict have no moves that do.
use Rattle.std.proofs.Common.{◌≡◌, ◌≤◌, ℕ, ◌+◌, false, ◌||◌, List, ◌++◌, map, subst, arith}
use Rattle.std.proofs.lemmas.Bool.{or_from}
use Rattle.page_pool.specs.Cells.{share_a_cell}
use Rattle.range_gate.specs.Cells.{Cells, block_cells, byte_cells, cells_clash, in_turn}
use Rattle.range_gate.proofs.CellLaws.{no_block, no_byte, none_alone}
use Rattle.walk_laws.specs.Passed.{Op, Fetch, FetchPi, Fill, Overwrite, Put, Seal, Show, Wait, Write, WritePi, bytes_of, cells_touched, footprint, reach_of, conflict, volume_len}
use Rattle.walk_laws.proofs.Passed.{cells_are, AllBelow, below, no_clash, share_back}
use Rattle.walk_laws.specs.Settings.{Setting}
use Rattle.walk_laws.specs.UnderMap.{home}
use Rattle.run_laws.proofs.Parts.{share_left, share_right}
use Rattle.run_laws.specs.OpsApart.{HasBlocks, IsPlaced, NoneMeet, OneCellEach, OpsConflict, is_shifted}
use Rattle.run_laws.specs.ScriptMoves.{all_moves, blocks_of, fates_of, room_of}
use Rattle.run_laws.proofs.Inside.{op_inside, op_reach, with_own}
use Rattle.run_laws.proofs.Reach.{none_meet}
use Rattle.run_laws.proofs.Turns.{AllFrom, from_less, homes_apart, share_bound, share_bound_back, turn_below, turn_from}

pub clear : (f g : Cells) → share_a_cell f.reads g.writes ≡ false → share_a_cell g.reads f.writes ≡ false → share_a_cell f.writes g.writes ≡ false → cells_clash f g ≡ false
clear f g a b c = or_from (share_a_cell f.reads g.writes) (share_a_cell g.reads f.writes || share_a_cell f.writes g.writes) a (or_from (share_a_cell g.reads f.writes) (share_a_cell f.writes g.writes) b c)

module _ (f g : Cells) (own other : List ℕ) (n mid : ℕ) (h : cells_clash f g ≡ false) (fr : AllBelow n f.reads) (fw : AllBelow n f.writes) (gr : AllBelow n g.reads) (gw : AllBelow n g.writes)
    (behind : AllFrom n own) (behind_too : AllFrom n other) (first : AllBelow mid own) (later : AllFrom mid other) where
  bytes_clear : cells_clash (with_own f own) (with_own g other) ≡ false
  bytes_clear =
      let k = no_clash f g h in
      let own_other = share_bound mid own other first later in
      let writes = share_left f.writes own (g.writes ++ other)
      (share_right g.writes other f.writes k.writes (share_bound n f.writes other fw behind_too))
      (share_right g.writes other own (share_bound_back n own g.writes behind gw) own_other) in
      clear (with_own f own) (with_own g other)
      (share_left f.reads (f.writes ++ own) (g.writes ++ other) (share_right g.writes other f.reads k.one (share_bound n f.reads other fr behind_too)) writes)
      (share_left g.reads (g.writes ++ other) (f.writes ++ own) (share_right f.writes own g.reads k.other (share_bound n g.reads own gr behind)) (share_back (f.writes ++ own) (g.writes ++ other) writes))
      writes

-- the blocks of an op lie in the volume
record InVolume (count : ℕ) (f : Cells) : Type 0 where
  reads : AllBelow count f.reads
  writes : AllBelow count f.writes

in_volume : (m : Setting) (op : Op) → HasBlocks m op → InVolume (volume_len m.entries) (block_cells (reach_of op))
in_volume m (Fill seg byte) h = record { reads = tt; writes = tt }
in_volume m (Put page off values) h = record { reads = tt; writes = tt }
in_volume m (Show seg) h = record { reads = tt; writes = tt }
in_volume m (Seal n body tuples app rtag) h = record { reads = tt; writes = tt }
in_volume m (Write v n body app) h = record { reads = tt; writes = turn_below v n (volume_len m.entries) h.within }
in_volume m (Fetch v n body) h = record { reads = turn_below v n (volume_len m.entries) h.within; writes = tt }
in_volume m (WritePi v n body tuples) h = record { reads = tt; writes = turn_below v n (volume_len m.entries) h.0.within }
in_volume m (FetchPi v n body tuples) h = record { reads = turn_below v n (volume_len m.entries) h.0.within; writes = tt }
in_volume m (Overwrite dev lba change) h = record { reads = tt; writes = tt }
in_volume m Wait h = record { reads = tt; writes = tt }

pub ops_apart : (m : Setting) (bytes from fate i next later j : ℕ) (op other : Op) → OneCellEach m → IsPlaced m bytes op → IsPlaced m bytes other →
    bytes ≤ from → from + room_of m op ≤ next → fate + fates_of op ≤ later → (OpsConflict m i op j other → ⊥) →
    NoneMeet conflict (all_moves (blocks_of m from fate i op)) (all_moves (blocks_of m next later j other))
ops_apart m bytes from fate i next later j op other one p q l r k apart =
    let f = footprint op (is_shifted m i) in
    let g = footprint other (is_shifted m j) in
    let alone = none_alone f g apart in
    let count = volume_len m.entries in
    let mine = block_cells (reach_of op) in
    let yours = block_cells (reach_of other) in
    let c = no_clash mine yours (no_block f g apart) in
    let a = in_volume m op p.blocks in
    let b = in_volume m other q.blocks in
    let mr = map (home m) mine.reads in
    let mw = map (home m) mine.writes in
    let yr = map (home m) yours.reads in
    let yw = map (home m) yours.writes in
    let x = homes_apart (home m) count one mine.reads yours.writes a.reads b.writes c.one in
    let y = homes_apart (home m) count one yours.reads mine.writes b.reads a.writes c.other in
    let z = homes_apart (home m) count one mine.writes yours.writes a.writes b.writes c.writes in
    let found = share_bound later (in_turn fate (fates_of op)) (in_turn later (fates_of other)) (turn_below fate (fates_of op) later k) (turn_from later (fates_of other)) in
    let big = op_reach m from fate op in
    let large = op_reach m next later other in
    let touched : cells_clash (cells_touched op) (cells_touched other) ≡ false =
    subst (λ t. cells_clash (cells_touched op) t ≡ false) (cells_are other) (subst (λ t. cells_clash t (byte_cells (bytes_of other)) ≡ false) (cells_are op) (no_byte f g p.in_pages q.in_pages apart)) in
    none_meet big large (all_moves (blocks_of m from fate i op)) (all_moves (blocks_of m next later j other)) (op_inside m bytes from fate i op p alone.0) (op_inside m bytes next later j other q alone.1) (record {
      bytes = bytes_clear (cells_touched op) (cells_touched other) (in_turn from (room_of m op)) (in_turn next (room_of m other)) bytes next touched
          (below bytes (cells_touched op).reads p.reads)
          (below bytes (cells_touched op).writes p.writes)
          (below bytes (cells_touched other).reads q.reads)
          (below bytes (cells_touched other).writes q.writes)
          (from_less from bytes (in_turn from (room_of m op)) l (turn_from from (room_of m op)))
          (from_less next bytes (in_turn next (room_of m other)) (omega (arith, l, r)) (turn_from next (room_of m other)))
          (turn_below from (room_of m op) next r)
          (turn_from next (room_of m other));
      blocks = clear big.blocks large.blocks (share_left mr mw yw x z) (share_left yr yw mw y (share_back mw yw z)) z;
      logs = clear big.logs large.logs (share_left mr mw yw x z) (share_left yr yw mw y (share_back mw yw z)) z;
      fates = clear big.fates large.fates found (share_back (in_turn fate (fates_of op)) (in_turn later (fates_of other)) found) found;
    })
