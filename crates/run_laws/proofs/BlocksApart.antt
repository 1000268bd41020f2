-- No two blocks of one request have moves that conflict.
use Rattle.std.proofs.Common.{◌≡◌, ◌<◌, ◌≤◌, ℕ, zero, suc, ◌+◌, ◌*◌, Bool, true, false, ◌||◌, eqb, List, [], ◌∷◌, ◌++◌, length, drop, get_or, refl, sym, ap, ◌∙◌, arith}
use Rattle.std.specs.Prelude.{ℤ, pos, negsuc, ◌+ℤ◌}
use Rattle.std.proofs.lemmas.Bool.{ne_eqb, or_from}
use Rattle.std.proofs.lemmas.Int.{ints}
use Rattle.fault_schedule.specs.Altered.{shift_of}
use Rattle.fault_schedule.specs.declared.fault.Crossing.TheVariants.{AdapterToTarget, TargetToMedium}
use Rattle.page_pool.specs.declared.segs.Seg.{Seg}
use Rattle.page_pool.specs.Cells.{share_a_cell}
use Rattle.range_gate.specs.Cells.{cells_of}
use Rattle.integrity_payload.specs.declared.payload.Owner.TheVariants.{Block as OfBlock, App as OfApp}
use Rattle.walk_laws.specs.Passed.{Op, Fetch, FetchPi, Fill, Overwrite, Put, Seal, Show, Wait, Write, WritePi, Act, conflict, ActAnswer, stored_cell, stored_lba, place_in, volume_len, DeviceInfo}
use Rattle.walk_laws.proofs.Passed.{AllBelow, below, distinct, share_back}
use Rattle.walk_laws.specs.Settings.{Block, Setting, block_of, route}
use Rattle.walk_laws.specs.Steps.{Reads, Step, Writes, WritesPi, body_of, each_from, frame_at}
use Rattle.walk_laws.specs.UnderMap.{home}
use Rattle.run_laws.specs.ShownRun.{HasBlock, HasCells, LiesOn}
use Rattle.run_laws.proofs.Parts.{block_below, blocks_apart as parts_apart, drop_within, share_left, share_right, share_within}
use Rattle.run_laws.specs.OpsApart.{IsPlaced, IsSpread, NoneMeet, OneCellEach, is_shifted}
use Rattle.run_laws.specs.ScriptMoves.{ByMoves, all_moves, blocks_from, blocks_of, by_moves, lands_in, own_at}
use Rattle.run_laws.proofs.Inside.{landing_block, stored_home}
use Rattle.run_laws.proofs.Meeting.{clear}
use Rattle.run_laws.proofs.Reach.{AreClear, Reach, block_inside, block_reach, in_all, none_meet, read_reach, where_on, write_reach}
use Rattle.run_laws.proofs.Turns.{AllFrom, from_less, share_bound, share_bound_back, turn_below, turn_from}

one_apart : (x y : ℕ) → (x ≡ y → ⊥) → share_a_cell (x ∷ []) (y ∷ []) ≡ false
one_apart x y h = or_from (eqb x y || false) false (or_from (eqb x y) false (ne_eqb x y h) refl) refl

own_apart : (dix : Bool) (from j k : ℕ) → j < k → share_a_cell (where_on dix (own_at from j)) (where_on dix (own_at from k)) ≡ false
own_apart true from j k l = share_bound (from + 8 * k) (own_at from j) (own_at from k) (turn_below (from + 8 * j) 8 (from + 8 * k) (omega (arith, l))) (turn_from (from + 8 * k) 8)
own_apart false from j k l = refl

own_behind : (dix : Bool) (n from k : ℕ) → n ≤ from → AllFrom n (where_on dix (own_at from k))
own_behind true n from k l = from_less (from + 8 * k) n (own_at from k) (omega (arith, l)) (turn_from (from + 8 * k) 8)
own_behind false n from k l = tt

meet_both : (xs ys zs : List (Act ActAnswer)) → NoneMeet conflict xs zs → NoneMeet conflict ys zs → NoneMeet conflict (xs ++ ys) zs
meet_both [] ys zs h k = k
meet_both (x ∷ xs) ys zs h k = (h.0, meet_both xs ys zs h.1 k)

module _ (m : Setting) where
  write_clear : (b c : Block) (reads writes reads' writes' : List ℕ) → share_a_cell reads writes' ≡ false → share_a_cell reads' writes ≡ false → share_a_cell writes writes' ≡ false →
      (stored_cell m.site (route m b) ≡ stored_cell m.site (route m c) → ⊥) → (home m b.virt ≡ home m c.virt → ⊥) → AreClear (write_reach m b reads writes) (write_reach m c reads' writes')
  write_clear b c reads writes reads' writes' p q r h k =
      let one = one_apart (home m b.virt) (home m c.virt) k in
      let there = stored_cell m.site (route m b) in
      let yonder = stored_cell m.site (route m c) in
      let stored = one_apart there yonder h in
      record {
        bytes = clear (record { reads = reads; writes = writes }) (record { reads = reads'; writes = writes' }) p q r;
        blocks = clear (write_reach m b reads writes).blocks (write_reach m c reads' writes').blocks stored (one_apart yonder there (λ e. h (sym e))) stored;
        logs = clear (write_reach m b reads writes).logs (write_reach m c reads' writes').logs one (one_apart (home m c.virt) (home m b.virt) (λ e. k (sym e))) one;
        fates = refl;
      }

  read_clear : (b c : Block) (at at' : List ℕ) (fate fate' : ℕ) → share_a_cell at at' ≡ false → (fate ≡ fate' → ⊥) → AreClear (read_reach m b at fate) (read_reach m c at' fate')
  read_clear b c at at' fate fate' p h =
      let one = one_apart fate fate' h in
      record {
        bytes = clear (read_reach m b at fate).bytes (read_reach m c at' fate').bytes p (share_back at at' p) p;
        blocks = refl;
        logs = refl;
        fates = clear (read_reach m b at fate).fates (read_reach m c at' fate').fates one (one_apart fate' fate (λ e. h (sym e))) one;
      }

  module _ (bytes : ℕ) (one : OneCellEach m) (from fate i : ℕ) (front : bytes ≤ from) where
    abbrev reach_at : (ℕ → Step) → ℕ → Reach
    reach_at f k = block_reach m (own_at from k) (fate + k) (f k)

    homes_differ : (v j k n : ℕ) → v + n ≤ volume_len m.entries → j < k → k < n → home m (v + j) ≡ home m (v + k) → ⊥
    homes_differ v j k n w l u e = let x = one (v + j) (v + k) (omega (arith, w, l, u)) (omega (arith, w, u)) e in omega (arith, x, l)

    abbrev writes_at : (v : ℕ) → (body : List Seg) → (app : ℕ) → ℕ → Step
    writes_at v body app k = Writes (block_of i v k) app (body_of m.size body k)

    abbrev fetches_at : (v : ℕ) → (body : List Seg) → ℕ → Step
    fetches_at v body k = Reads (block_of i v k) OfBlock (body_of m.size body k)

    abbrev writes_pi_at : (v : ℕ) → (body tuples : List Seg) → ℕ → Step
    writes_pi_at v body tuples k = WritesPi (block_of i v k) (frame_at m.size body tuples k)

    abbrev fetches_pi_at : (v : ℕ) → (body tuples : List Seg) → ℕ → Step
    fetches_pi_at v body tuples k = Reads (block_of i v k) OfApp (frame_at m.size body tuples k)

    in_pages : (body : List Seg) (k : ℕ) → AllBelow bytes (cells_of body) → AllBelow bytes (body_of m.size body k)
    in_pages body k h = block_below m.size body [] OfBlock bytes k h

    write_blocks : (v n : ℕ) (body : List Seg) (app : ℕ) → IsPlaced m bytes (Write v n body app) → IsSpread m i (Write v n body app) → (j k : ℕ) → j < k → k < n → AreClear (reach_at (writes_at v body app) j) (reach_at (writes_at v body app) k)
    write_blocks v n body app h s j k l u =
        let mine = where_on m.mode.dix (own_at from j) in
        let yours = where_on m.mode.dix (own_at from k) in
        let a = body_of m.size body j in
        let b = body_of m.size body k in
        let own = own_apart m.mode.dix from j k l in
        let low = below bytes (cells_of body) h.reads in
        write_clear (block_of i v j) (block_of i v k) (a ++ mine) mine (b ++ yours) yours
        (share_left a mine yours (share_bound bytes a yours (in_pages body j low) (own_behind m.mode.dix bytes from k front)) own)
        (share_left b yours mine (share_bound bytes b mine (in_pages body k low) (own_behind m.mode.dix bytes from j front)) (share_back mine yours own))
        own
        (λ e. let x = s j k (omega (arith, l, u)) u e in omega (arith, x, l)) (homes_differ v j k n h.blocks.within l u)

    read_blocks : (v n : ℕ) (body : List Seg) → IsPlaced m bytes (Fetch v n body) → IsSpread m i (Fetch v n body) → (j k : ℕ) → j < k → k < n → AreClear (reach_at (fetches_at v body) j) (reach_at (fetches_at v body) k)
    read_blocks v n body h s j k l u =
        let mine = where_on m.mode.dix (own_at from j) in
        let yours = where_on m.mode.dix (own_at from k) in
        let a = body_of m.size body j in
        let b = body_of m.size body k in
        let low = below bytes (cells_of body) h.writes in
        read_clear (block_of i v j) (block_of i v k) (lands_in OfBlock m.mode.dix a (own_at from j)) (lands_in OfBlock m.mode.dix b (own_at from k)) (fate + j) (fate + k)
        (rw (landing_block m m.mode.dix a (own_at from j), landing_block m m.mode.dix b (own_at from k))
        (share_left a mine (b ++ yours)
        (share_right b yours a (parts_apart m.size body [] OfBlock j k (distinct (cells_of body) s) l) (share_bound bytes a yours (in_pages body j low) (own_behind m.mode.dix bytes from k front)))
        (share_right b yours mine (share_bound_back bytes mine b (own_behind m.mode.dix bytes from j front) (in_pages body k low)) (own_apart m.mode.dix from j k l))))
        (λ e. omega (arith, e, l))

    write_pi_blocks : (v n : ℕ) (body tuples : List Seg) → IsPlaced m bytes (WritePi v n body tuples) → IsSpread m i (WritePi v n body tuples) → (j k : ℕ) → j < k → k < n →
        AreClear (reach_at (writes_pi_at v body tuples) j) (reach_at (writes_pi_at v body tuples) k)
    write_pi_blocks v n body tuples h s j k l u =
        let f = frame_at m.size body tuples j in
        let g = frame_at m.size body tuples k in
        let x = drop m.size f in
        let y = drop m.size g in
        let whole = parts_apart m.size body tuples OfApp j k (distinct (cells_of body ++ cells_of tuples) s.1) l in
        write_clear (block_of i v j) (block_of i v k) f x g y
        (share_within f f y g (in_all f) (drop_within m.size g) whole)
        (share_within g g x f (in_all g) (drop_within m.size f) (share_back f g whole))
        (share_within x f y g (drop_within m.size f) (drop_within m.size g) whole)
        (λ e. let z = s.0 j k (omega (arith, l, u)) u e in omega (arith, z, l)) (homes_differ v j k n h.blocks.0.within l u)

    read_pi_blocks : (v n : ℕ) (body tuples : List Seg) → IsSpread m i (FetchPi v n body tuples) → (j k : ℕ) → j < k → k < n → AreClear (reach_at (fetches_pi_at v body tuples) j) (reach_at (fetches_pi_at v body tuples) k)
    read_pi_blocks v n body tuples s j k l u =
        read_clear (block_of i v j) (block_of i v k) (frame_at m.size body tuples j) (frame_at m.size body tuples k) (fate + j) (fate + k)
        (parts_apart m.size body tuples OfApp j k (distinct (cells_of body ++ cells_of tuples) s) l) (λ e. omega (arith, e, l))

    abbrev block_at : (ℕ → Step) → ℕ → ByMoves
    block_at f k = by_moves m (own_at from k) (fate + k) (f k)

    abbrev blocks_at : (start n : ℕ) → (ℕ → Step) → List ByMoves
    blocks_at start n f = blocks_from m from fate start (each_from start n f)

    record IsAt (start n : ℕ) (f : ℕ → Step) (bs : List ByMoves) (b : ByMoves) : Type 0 where
      is_block : b ≡ block_at f (start + length bs)
      within : start + length bs < start + n

    no_more : {A : Type 0} (bs : List ByMoves) (b : ByMoves) (cs : List ByMoves) → [] ≡ bs ++ (b ∷ cs) → A
    no_more [] b cs e = let l : 0 ≡ suc (length cs) = ap length e in absurd (omega (arith, l))
    no_more (x ∷ bs) b cs e = let l : 0 ≡ suc (length (bs ++ (b ∷ cs))) = ap length e in absurd (omega (arith, l))

    at_block : (start n : ℕ) (f : ℕ → Step) (bs : List ByMoves) (b : ByMoves) (cs : List ByMoves) → blocks_at start n f ≡ bs ++ (b ∷ cs) → IsAt start n f bs b
    at_block start zero f bs b cs e = no_more bs b cs e
    at_block start (suc n) f [] b cs e = record {
      is_block = sym (ap (λ xs. get_or xs 0 b) e) ∙ ap (block_at f) (let z : start ≡ start + 0 = omega arith in z);
      within = omega arith;
    }
    at_block start (suc n) f (x ∷ bs) b cs e =
        let rest = at_block (suc start) n f bs b cs (ap (drop 1) e) in
        record {
          is_block = rest.is_block ∙ ap (block_at f) (let z : suc start + length bs ≡ start + suc (length bs) = omega arith in z);
          within = let w = rest.within in omega (arith, w);
        }

    blocks_meet : (start n : ℕ) (f : ℕ → Step) → ((j k : ℕ) → j < k → k < start + n → AreClear (reach_at f j) (reach_at f k)) → (bs : List ByMoves) (b : ByMoves) (cs : List ByMoves) →
        blocks_at start n f ≡ bs ++ (b ∷ cs) → NoneMeet conflict (all_moves bs) b.moves
    blocks_meet start zero f clear bs b cs e = no_more bs b cs e
    blocks_meet start (suc n) f clear [] b cs e = tt
    blocks_meet start (suc n) f clear (x ∷ bs) b cs e =
        let k = start + suc (length bs) in
        let here = at_block start (suc n) f (x ∷ bs) b cs e in
        let w : k < start + suc n = here.within in
        let first : x ≡ block_at f start = sym (ap (λ xs. get_or xs 0 x) e) in
        let mine = block_inside m (own_at from start) (fate + start) (f start) in
        let yours = block_inside m (own_at from k) (fate + k) (f k) in
        meet_both x.moves (all_moves bs) b.moves
        (rw (first, here.is_block) (none_meet (reach_at f start) (reach_at f k) (block_at f start).moves (block_at f k).moves mine yours (clear start k (omega arith) w)))
        (blocks_meet (suc start) n f (λ i j l u. clear i j l (omega (arith, u))) bs b cs (ap (drop 1) e))

    -- the blocks in front of one
    pub blocks_apart : (op : Op) → IsPlaced m bytes op → IsSpread m i op → (bs : List ByMoves) (b : ByMoves) (cs : List ByMoves) → blocks_of m from fate i op ≡ bs ++ (b ∷ cs) → NoneMeet conflict (all_moves bs) b.moves
    blocks_apart (Write v n body app) h s bs b cs e = blocks_meet 0 n (writes_at v body app) (λ j k l u. write_blocks v n body app h s j k l (omega (arith, u))) bs b cs e
    blocks_apart (Fetch v n body) h s bs b cs e = blocks_meet 0 n (fetches_at v body) (λ j k l u. read_blocks v n body h s j k l (omega (arith, u))) bs b cs e
    blocks_apart (WritePi v n body tuples) h s bs b cs e = blocks_meet 0 n (writes_pi_at v body tuples) (λ j k l u. write_pi_blocks v n body tuples h s j k l (omega (arith, u))) bs b cs e
    blocks_apart (FetchPi v n body tuples) h s bs b cs e = blocks_meet 0 n (fetches_pi_at v body tuples) (λ j k l u. read_pi_blocks v n body tuples s j k l (omega (arith, u))) bs b cs e
    blocks_apart (Fill seg byte) h s bs b cs e = absurd s
    blocks_apart (Put page off values) h s bs b cs e = absurd s
    blocks_apart (Show seg) h s bs b cs e = absurd s
    blocks_apart (Seal n body tuples app rtag) h s bs b cs e = absurd s
    blocks_apart (Overwrite dev lba change) h s bs b cs e = absurd s
    blocks_apart Wait h s bs b cs e = absurd s

-- a request that no shift names stores each block in its own cell
pub still_apart : (m : Setting) (i v n : ℕ) → OneCellEach m → is_shifted m i ≡ false → v + n ≤ volume_len m.entries → (j k : ℕ) → j < n → k < n → stored_cell m.site (route m (block_of i v j)) ≡ stored_cell m.site (route m (block_of i v k)) → j ≡ k
still_apart m i v n one s w j k l u e =
    let a = stored_home m (block_of i v j) s in
    let b = stored_home m (block_of i v k) s in
    let x = one (v + j) (v + k) (omega (arith, w, l)) (omega (arith, w, u)) (sym a ∙ e ∙ b) in
    omega (arith, x)

-- nor are two of a request that is shifted and stays on its devices
same_lba : (a b w : ℕ) (y z : ℤ) → pos w ≡ (pos a +ℤ y) +ℤ z → pos w ≡ (pos b +ℤ y) +ℤ z → a ≡ b
same_lba a b w (pos n) (pos k) e f = omega (arith, ints, e, f)
same_lba a b w (pos n) (negsuc k) e f = omega (arith, ints, e, f)
same_lba a b w (negsuc n) (pos k) e f = omega (arith, ints, e, f)
same_lba a b w (negsuc n) (negsuc k) e f = omega (arith, ints, e, f)

pub shifted_apart : (m : Setting) (devices : List DeviceInfo) (image : List (List ℕ)) (i v n : ℕ) → LiesOn m devices → HasCells m devices image → v + n ≤ volume_len m.entries →
    ((k : ℕ) → k < n → let r = route m (block_of i v k) in
    (pos (stored_lba m.site.faults r) ≡ (pos r.lba +ℤ shift_of m.site.faults AdapterToTarget i) +ℤ shift_of m.site.faults TargetToMedium i) × HasBlock m devices r.dev (stored_lba m.site.faults r)) →
    (j k : ℕ) → j < n → k < n → stored_cell m.site (route m (block_of i v j)) ≡ stored_cell m.site (route m (block_of i v k)) → j ≡ k
shifted_apart m devices image i v n lies cells w on j k l u e =
    let p = on j l in
    let q = on k u in
    let r = route m (block_of i v j) in
    let t = route m (block_of i v k) in
    let same = cells.apart r.dev (stored_lba m.site.faults r) t.dev (stored_lba m.site.faults t) p.1 q.1 e in
    let lba = same_lba r.lba t.lba (stored_lba m.site.faults t) (shift_of m.site.faults AdapterToTarget i) (shift_of m.site.faults TargetToMedium i) (sym (ap pos same.1) ∙ p.0) q.0 in
    let place : place_in m.entries (v + j) ≡ place_in m.entries (v + k) = λ x. (same.0 x, lba x) in
    let alone = lies.alone (v + j) (v + k) (omega (arith, w, l)) (omega (arith, w, u)) place in
    omega (arith, alone)
