-- The script of a piece, at the target: its blocks go the ways that the mirror's script says.
use Rattle.std.proofs.Common.{◌≡◌, ◌<◌, ◌≤◌, ℕ, suc, ◌+◌, ◌*◌, Bool, true, false, if◌then◌else◌, List, [], ◌∷◌, ◌++◌, length, map, get_or, replicate, take, drop, Option, Some, None, refl, sym, ap, subst, ◌∙◌, arith, length-append}
use Rattle.std.specs.Prelude.{IfOk, Result, Ok, Err, nat_abs}
use Rattle.std.proofs.lemmas.Bool.{eq-eqb}
use Rattle.std.proofs.lemmas.List.{drop-append-le, length-drop, length-replicate, take-append-le, take-take, take_all}
use Rattle.page_pool.specs.declared.segs.Seg.{Seg}
use Rattle.page_pool.specs.Cells.{flat, gather}
use Rattle.range_gate.specs.Cells.{in_turn}
use Rattle.fault_schedule.specs.Altered.{shift_of}
use Rattle.fault_schedule.specs.declared.fault.Crossing.{Crossing}
use Rattle.fault_schedule.specs.declared.fault.Crossing.TheVariants.{AdapterToTarget, MediumToTarget, TargetToMedium}
use Rattle.fault_schedule.specs.declared.Label.{Label}
use Rattle.fault_schedule.specs.declared.fault.FaultLine.{FaultLine}
use Rattle.pi_tuple.specs.declared.checks.Check.{Check}
use Rattle.integrity_payload.specs.declared.payload.Owner.TheVariants.{Block as OfBlock}
use Rattle.bio_core.specs.declared.fate.Why.{Why}
use Rattle.stack_ops.specs.declared.op.Op.{Op}
use Rattle.stack_ops.specs.declared.op.Op.TheVariants.{Write}
use Rattle.stack_ops.specs.declared.reply.Reply.{Reply}
use Rattle.stack_ops.specs.declared.reply.Reply.TheVariants.{Silent}
use Rattle.rig_api.specs.Target.{Stored}
use Rattle.rig_api.specs.Frames.{stored_size}
use Rattle.rig_api.specs.Log.{LogEntry}
use Rattle.rig_discovery.specs.Discovery.{info_of}
use Rattle.volume_table.specs.Places.{place_in}
use Rattle.volume_table.specs.Tables.{MadeFor, Table}
use Rattle.block_path.specs.Acts.{State}
use Rattle.block_path.specs.Blocks.{fetched_cell, own_frame}
use Rattle.block_path.specs.Routes.{host_size, moved, target, wire_lba, wire_size}
use Rattle.block_path.specs.WayIn.{at_host, delivered_of, delivered_unless, from_device, from_wire, mapped_back, owner_finds, verified, way_in}
use Rattle.block_path.specs.WayOut.{stored_of}
use Rattle.block_path.specs.declared.route.Route.{Route}
use Rattle.block_path.proofs.Sizes.{in_size, mapped_sizes}
use Rattle.walk_laws.specs.ScriptWalk.{bad_from, replies_from, walk_from, whole_or_bad}
use Rattle.walk_laws.specs.Settings.{Block, Setting, block_of, route}
use Rattle.walk_laws.specs.Steps.{body_of}
use Rattle.walk_laws.proofs.CalmRuns.{room as block_ends}
use Rattle.run_laws.proofs.Layers.{unmoved}
use Rattle.run_laws.specs.Suited.{IsAtTarget}
use Rattle.script_text.specs.declared.script.Script.{Script}
use Rattle.script_stack.specs.Passed.{AreStored, blocks_told, cell_in, shapes_of}
use Rattle.script_stack.proofs.Passed.{TargetSuits, told-long}
use Rattle.script_stack.specs.Followed.{HasWalked, opening_of}
use Rattle.mirror_laws.specs.OnLegs.{data_read}
use Rattle.mirror_laws.specs.Repair.{reading}
use Rattle.mirror_volume.specs.declared.piece.Piece.{Piece}
use Rattle.mirror_volume.specs.Inner.{first_label, first_virt, own_faults, page_segs, pages_for, puts, read_script, write_script}
use Rattle.mirror_volume.specs.Legs.{ReadOnLeg, WroteOnLeg, blocks_of, mirror_setting}
use Rattle.mirror_volume.specs.MirrorScript.{IsMirrorScript, IsPiece}
use Rattle.mirror_volume.proofs.Blocks.{Alike, AreRead, AreWritten, all_read, all_written}
use Rattle.mirror_volume.proofs.Puts.{puts_walk, replies_puts, walk_puts}
use Rattle.mirror_volume.proofs.Renumbered.{altered_same, fails_same, in_same, kept_same, medium_same, out_same, own_flips, still, stored_same}
use Rattle.mirror_volume.proofs.Turns.{body_cells, gathered}

-- ---- pages for so many bytes

pub pages_room : (bytes : ℕ) → bytes ≤ 4096 * pages_for bytes
pages_room bytes = omega arith

pub pages_least : (bytes : ℕ) → 4096 * pages_for bytes < bytes + 4096
pages_least bytes = omega arith

-- ---- a frame that is delivered is as long as one between host and adapter

host_least : (size : ℕ) (dix : Bool) → size ≤ (if dix then size + 8 else size)
host_least size true = omega arith
host_least size false = omega arith

-- so this holds of its length if it holds of that
module _ (faults : List FaultLine) (r : Route) (P : ℕ → Type 0) (holds : P (host_size r)) where
  ended_has : (o : Option Check) (carried frame : List ℕ) → P (length frame) → IfOk (delivered_of (delivered_unless OfBlock carried frame o)) (λ f. P (length f))
  ended_has None carried frame l = l
  ended_has (Some check) carried frame l = tt

  host_has : (carried : List ℕ) (came : Result (List ℕ) Check) → IfOk came (λ f. length f ≡ host_size r) → IfOk (delivered_of (verified r OfBlock (at_host carried came))) (λ f. P (length f))
  host_has carried (Ok frame) l = ended_has (owner_finds r (mapped_back r frame)) carried (mapped_back r frame) (subst P (sym ((mapped_sizes r frame l).1)) holds)
  host_has carried (Err check) l = tt

  device_has : (came : Result (List ℕ) Why) → IfOk came (λ f. length f ≡ wire_size r) → IfOk (delivered_of (verified r OfBlock (from_device faults r came))) (λ f. P (length f))
  device_has (Ok carried) l = host_has carried (from_wire faults r carried) (in_size faults r carried l)
  device_has (Err why) l = tt

-- ---- a piece

virt_below : (half k : ℕ) (p : Piece) → p.v + p.n ≤ half → k < p.n → first_virt half p + k < half + half
virt_below half k p l h = by p.on1 where
  by : (c : Bool) → (if c then half + p.v else p.v) + k < half + half
  by true = omega arith
  by false = omega arith

module _ (s : Script) (t : Table) (half : ℕ) (p : Piece) (is : IsMirrorScript s t half) (fits : IsPiece s.block half p) (us : List Stored) where
  abbrev m : Setting
  m = mirror_setting s t us

  abbrev v : ℕ
  v = first_virt half p

  abbrev n : ℕ
  n = p.n

  abbrev size : ℕ
  size = s.block

  abbrev pages : ℕ
  pages = pages_for (p.n * s.block)

  abbrev segs : List Seg
  segs = page_segs 0 pages (n * size)

  abbrev cells_at : ℕ → List ℕ
  cells_at k = body_of size segs k

  -- block k of the piece, in the mirror's script
  abbrev there : ℕ → Block
  there k = record { op = p.op; k = first_label p + k; virt = v + k }

  module _ (request : ℕ) where
    abbrev faults : List FaultLine
    faults = own_faults p request s.faults

    abbrev own : Setting
    own = record m { site = record m.site { faults = faults; device = target faults } }

    unshifted : (at : Crossing) → shift_of faults at request ≡ shift_of s.faults at p.op
    unshifted at = still faults (own_flips p request s.faults is.flips) at request ∙ sym (still s.faults is.flips at p.op)

    pub alike : (k : ℕ) → k < n → Alike own m (block_of request v k) (there k)
    alike k l =
        let a = altered_same p request s.faults k l in
        let fails = fails_same p request s.faults k l in
        let q : Label = record { op = request; k = k } in
        let r : Label = record { op = p.op; k = first_label p + k } in
        let dev = (place_in t.entries (v + k)).0 in
        let lba = (place_in t.entries (v + k)).1 in
        let stored = stored_same faults s.faults q r (v + k) dev lba t.ty s.block s.mode a unshifted fails in
        let medium = medium_same faults s.faults q r (v + k) dev lba t.ty s.block s.mode a unshifted fails in
        let cell = cell_in (shapes_of us) in
        record {
          writes = λ e. ap stored_of (out_same faults s.faults q r (v + k) dev lba t.ty s.block s.mode a unshifted fails (own_frame (route m (there k)) e.app e.body));
          reads = λ blocks.
              ap (λ at. delivered_of (way_in faults (target faults) (route own (block_of request v k)) OfBlock (get_or blocks (cell dev at) []))) medium
              ∙ ap delivered_of (in_same faults s.faults q r (v + k) dev lba t.ty s.block s.mode a unshifted fails OfBlock (get_or blocks (fetched_cell m.site (route m (there k))) []));
          stored = ap (cell dev) stored;
          leaves = λ old frame. kept_same p request s.faults k l old frame;
        }

  -- its cells
  module _ (k : ℕ) (l : k < n) where
    pub cells_are : cells_at k ≡ in_turn (k * size) size
    cells_are = body_cells size pages (n * size) k (pages_room (n * size)) (pages_least (n * size)) (block_ends size k n l)

    -- and what they hold, where its data stand at the begin of the pages
    pub data_there : (bytes tail : List ℕ) → length bytes ≡ n * size → gather 0 (cells_at k) (bytes ++ tail) ≡ take size (drop (k * size) bytes)
    data_there bytes tail e =
        let ends = block_ends size k n l in
        let a = length-append bytes tail in
        let d = length-drop (k * size) bytes in
        ap (λ at. gather 0 at (bytes ++ tail)) cells_are ∙ gathered (k * size) size (bytes ++ tail) (omega arith)
        ∙ ap (take size) (drop-append-le (k * size) bytes tail (omega arith)) ∙ take-append-le size (drop (k * size) bytes) tail (omega arith)

  -- ---- a write

  module _ (app : ℕ) (bytes : List ℕ) (whole : length bytes ≡ n * size) where
    abbrev script : Script
    script = write_script s half p app bytes

    abbrev opening : State
    opening = opening_of script (shapes_of us) (blocks_told us)

    abbrev request : Op
    request = Write v n segs app

    -- behind its puts
    abbrev filled : State
    filled = record opening { bytes = bytes ++ drop (length bytes) (replicate (4096 * pages) 0) }

    puts_done : walk_from (own (suc pages)) 1 (puts 0 pages bytes) opening ≡ filled
    puts_done =
        let z = length-replicate {A = ℕ} (4096 * pages) 0 in
        let a = pages_room (n * size) in
        let b = pages_least (n * size) in
        puts_walk (own (suc pages)) 1 0 pages bytes [] (replicate (4096 * pages) 0) opening refl (λ h. refl) (omega arith) (omega arith) (omega arith)

    wrote : AreWritten (own (suc pages)) m (λ k. block_of (suc pages) v k) there cells_at app (λ k. record { body = take size (drop (k * size) bytes); app = app }) 0 n filled
    wrote = all_written (own (suc pages)) m (λ k. block_of (suc pages) v k) there cells_at app (λ k. record { body = take size (drop (k * size) bytes); app = app }) 0 n filled
        (λ k z l. alike (suc pages) k (omega (arith, l)))
        (λ k z l. ap (λ x. record { body = x; app = app }) (data_there k (omega (arith, l)) bytes (drop (length bytes) (replicate (4096 * pages) 0)) whole))

    numbered : 1 + pages ≡ suc pages
    numbered = omega arith

    pub write_goes : (left : List Stored) (pool : List (List ℕ)) (log : List LogEntry) (replies : List Reply) → HasWalked script t us left pool log replies → WroteOnLeg s t half p app bytes us left replies
    write_goes left pool log replies w = record {
      replies_are =
          w.replies_are
          ∙ replies_puts (own (suc pages)) 1 0 pages bytes (request ∷ []) opening
          ∙ (λ i. replicate pages Silent ++ replies_from (own (suc pages)) (numbered i) (request ∷ []) (puts_done i))
          ∙ ap (λ whys. replicate pages Silent ++ (whole_or_bad (bad_from 0 whys) ∷ [])) wrote.whys;
      blocks =
          w.blocks
          ∙ ap (λ (c : State). c.blocks) (walk_puts (own (suc pages)) 1 0 pages bytes (request ∷ []) opening)
          ∙ (λ i. (walk_from (own (suc pages)) (numbered i) (request ∷ []) (puts_done i)).blocks)
          ∙ wrote.blocks;
    }

  -- ---- a read

  module _ (law : TargetSuits) (made : MadeFor t (map info_of (shapes_of us)) s.block) (stored : AreStored us) where
    module _ (k : ℕ) (l : k < n) where
      abbrev dev_at : ℕ
      dev_at = (place_in t.entries (v + k)).0

      abbrev lba_at : ℕ
      lba_at = (place_in t.entries (v + k)).1

      on_wire : wire_lba s.faults (route m (there k)) ≡ lba_at
      on_wire = unmoved m lba_at (shift_of s.faults AdapterToTarget p.op) (ap nat_abs (still s.faults is.flips AdapterToTarget p.op))

      -- moved on the wire and at the medium
      on_medium : (at : Crossing) → moved (wire_lba s.faults (route m (there k))) (shift_of s.faults at p.op) ≡ lba_at
      on_medium at = unmoved m (wire_lba s.faults (route m (there k))) (shift_of s.faults at p.op) (ap nat_abs (still s.faults is.flips at p.op)) ∙ on_wire

      long_there : length (get_or (blocks_told us) (cell_in (shapes_of us) dev_at lba_at) []) ≡ stored_size t.ty s.block
      long_there =
          let b = virt_below half k p fits.inside l in
          let g = is.long in
          told-long us t.ty s.block dev_at lba_at stored (made.inside (v + k) (omega (arith, b, g)))

      at_target : IsAtTarget m (blocks_told us) (there k)
      at_target = record {
        device = refl;
        protect = (let g = is.protect_is.range.low_is in omega (arith, g));
        stored = ap (λ a. length (get_or (blocks_told us) (cell_in (shapes_of us) dev_at a) [])) (on_medium TargetToMedium) ∙ long_there;
        fetched = ap (λ a. length (get_or (blocks_told us) (cell_in (shapes_of us) dev_at a) [])) (on_medium MediumToTarget) ∙ long_there;
      }

      pub delivers : (P : ℕ → Type 0) → P (host_size (route m (there k))) → IfOk (reading m (there k) (blocks_told us)) (λ f. P (length f))
      delivers P holds =
          let x = get_or (blocks_told us) (fetched_cell m.site (route m (there k))) [] in
          device_has s.faults (route m (there k)) P holds ((target s.faults).sends (route m (there k)) x) ((law m (blocks_told us) (there k) at_target).sends x (eq-eqb (length x) (length x) refl))

    abbrev reader : Script
    reader = read_script s half p

    abbrev begun : State
    begun = opening_of reader (shapes_of us) (blocks_told us)

    read : AreRead (own 1) m (λ k. block_of 1 v k) there cells_at 0 n [] (replicate (4096 * pages) 0) begun
    read =
        let z = length-replicate {A = ℕ} (4096 * pages) 0 in
        let a = pages_room (n * size) in
        all_read (own 1) m (λ k. block_of 1 v k) there cells_at 0 n [] (replicate (4096 * pages) 0) begun refl (omega arith) (omega arith)
        (λ k z l. alike 1 k (omega (arith, l))) (λ k z l. cells_are k (omega (arith, l))) (λ k z l. delivers k (omega (arith, l)) (λ f. size ≤ f) (host_least size s.mode.dix))

    front_of : (xs ys : List ℕ) → length xs ≡ n * size → take (n * size) (xs ++ ys) ≡ xs
    front_of xs ys e = take-append-le (n * size) xs ys (omega arith) ∙ take_all (n * size) xs (omega arith)

    pub read_goes : (left : List Stored) (pool : List (List ℕ)) (log : List LogEntry) (replies : List Reply) → HasWalked reader t us left pool log replies → ReadOnLeg s t half p us left pool replies
    read_goes left pool log replies w = record {
      replies_are = w.replies_are ∙ ap (λ whys. whole_or_bad (bad_from 0 whys) ∷ []) read.whys;
      blocks = w.blocks ∙ read.blocks;
      landed =
          sym (take-take (n * size) (4096 * pages) (flat pool) (pages_room (n * size)))
          ∙ ap (take (n * size)) (w.pages ∙ read.bytes)
          ∙ front_of (data_read m (blocks_of half p) (blocks_told us)) (drop (n * size) (replicate (4096 * pages) 0)) read.long;
    }
