-- A write on a leg where store calls may fail: what is found of each of its blocks, and what it leaves.
use Rattle.std.proofs.Common.{◌≡◌, ◌<◌, ℕ, suc, ◌+◌, ◌*◌, List, [], ◌∷◌, ◌++◌, length, get_or, replicate, take, drop, Option, refl, sym, ap, subst, ◌∙◌, arith, append-nil}
use Rattle.std.specs.Prelude.{nat_abs}
use Rattle.std.proofs.lemmas.List.{length-replicate}
use Rattle.page_pool.specs.declared.segs.Seg.{Seg}
use Rattle.page_pool.specs.Cells.{flat, gather}
use Rattle.fault_schedule.specs.declared.fault.Crossing.{Crossing}
use Rattle.fault_schedule.specs.declared.fault.Crossing.TheVariants.{AdapterToTarget, TargetToMedium}
use Rattle.fault_schedule.specs.Altered.{shift_of}
use Rattle.bio_core.specs.declared.fate.Why.{Why}
use Rattle.rig_api.specs.Log.{LogEntry}
use Rattle.rig_api.specs.Target.{Stored}
use Rattle.volume_table.specs.Places.{place_in}
use Rattle.volume_table.specs.Tables.{Table}
use Rattle.dix_adapter.specs.Ways.{blocks_told, cell_in, shapes_of}
use Rattle.block_path.specs.Acts.{State}
use Rattle.block_path.specs.Blocks.{stored_cell}
use Rattle.block_path.specs.Moves.{hidden}
use Rattle.block_path.specs.Routes.{moved}
use Rattle.stack_ops.specs.declared.op.Op.{Op}
use Rattle.stack_ops.specs.declared.op.Op.TheVariants.{Write}
use Rattle.stack_ops.specs.declared.reply.Reply.{Reply}
use Rattle.stack_ops.specs.declared.reply.Reply.TheVariants.{Silent}
use Rattle.walk_laws.specs.Past.{Brought, steps_from}
use Rattle.walk_laws.specs.ScriptWalk.{bad_from, walk_from, whole_or_bad}
use Rattle.walk_laws.specs.Settings.{Block, Setting, block_of, route}
use Rattle.walk_laws.specs.Steps.{Step, Writes, body_of, each_from}
use Rattle.walk_laws.specs.UnderMap.{home}
use Rattle.run_laws.specs.FallingReads.{falling_replies}
use Rattle.run_laws.specs.StoreFaults.{falling_walk}
use Rattle.run_laws.proofs.Layers.{unmoved}
use Rattle.run_laws.specs.Records.{recorded}
use Rattle.stack_walk_laws.specs.AtTheEnd.{EndsAsFalling}
use Rattle.stack_walk_laws.specs.Falls.{of_blocks}
use Rattle.stack_walk_laws.proofs.NoFlips.{no_flips_in}
use Rattle.script_text.specs.declared.script.Script.{Script}
use Rattle.script_stack.specs.Followed.{HasFallen, failed_in, opening_of, setting_of}
use Rattle.mirror_laws.specs.Repair.{writing}
use Rattle.mirror_volume.specs.declared.piece.Piece.{Piece}
use Rattle.mirror_volume.specs.Inner.{first_label, first_virt, page_segs, pages_for, puts, write_script}
use Rattle.mirror_volume.specs.Legs.{mirror_setting}
use Rattle.mirror_volume.specs.LegRuns.{found_by}
use Rattle.mirror_volume.specs.MirrorScript.{IsMirrorScript, IsPiece}
use Rattle.mirror_volume.proofs.Falling.{all_elsewhere, Wrote, whys, wrote}
use Rattle.mirror_volume.proofs.FellLegs.{Says, WroteEach, all-own, fall-puts, no-overwrite, say-puts, whys-count}
use Rattle.mirror_volume.proofs.OnLeg.{alike, data_there, pages_least, pages_room}
use Rattle.mirror_volume.proofs.Puts.{puts_walk}
use Rattle.mirror_volume.proofs.Renumbered.{still}
use Rattle.mirror_volume.proofs.Replied.{found-last}

-- ---- a request

module _ (s : Script) (t : Table) (half : ℕ) (p : Piece) (is : IsMirrorScript s t half) (fits : IsPiece s.block half p) (us : List Stored) where
  abbrev m : Setting
  m = mirror_setting s t us

  abbrev v : ℕ
  v = first_virt half p

  abbrev n : ℕ
  n = p.n

  abbrev size : ℕ
  size = s.block

  abbrev pages : ℕ
  pages = pages_for (p.n * s.block)

  abbrev segs : List Seg
  segs = page_segs 0 pages (n * size)

  -- block k of the piece, in the mirror's script
  abbrev pub there : ℕ → Block
  there k = record { op = p.op; k = first_label p + k; virt = v + k }

  pub at-home : (k : ℕ) → stored_cell m.site (route m (there k)) ≡ home m (v + k)
  at-home k =
      let lba = (place_in t.entries (v + k)).1 in
      let wire = moved lba (shift_of s.faults AdapterToTarget p.op) in
      let stays = λ (at : Crossing). ap nat_abs (still s.faults is.flips at p.op) in
      ap (cell_in (shapes_of us) (place_in t.entries (v + k)).0)
      (unmoved m wire (shift_of s.faults TargetToMedium p.op) (stays TargetToMedium) ∙ unmoved m lba (shift_of s.faults AdapterToTarget p.op) (stays AdapterToTarget))

  -- ---- a write

  module _ (app : ℕ) (bytes : List ℕ) (whole : length bytes ≡ n * size) where
    abbrev pub brought : ℕ → Brought
    brought k = record { body = take size (drop (k * size) bytes); app = app }

    abbrev script : Script
    script = write_script s half p app bytes

    abbrev opening : State
    opening = opening_of script (shapes_of us) (blocks_told us)

    abbrev request : Op
    request = Write v n segs app

    abbrev filled : State
    filled = record opening { bytes = bytes ++ drop (length bytes) (replicate (4096 * pages) 0) }

    pub record FellWrite (left : List Stored) (replies : List Reply) : Type 0 where
      pub shapes : shapes_of left ≡ shapes_of us
      pub wrote-each : WroteEach m n there brought (blocks_told us) (blocks_told left) (found_by n replies)
      pub says : Says pages replies (found_by n replies)

    module _ (apart : (k j : ℕ) → k < n → j < n → home m (v + k) ≡ home m (v + j) → k ≡ j) (inside : (k : ℕ) → k < n → home m (v + k) < length (blocks_told us))
        (left : List Stored) (pool : List (List ℕ)) (log : List LogEntry) (replies : List Reply) (w : HasFallen (write_script s half p app bytes) t us left pool log replies) where
      abbrev own : Setting
      own = setting_of script t (shapes_of us) (failed_in replies)

      puts-done : walk_from own 1 (puts 0 pages bytes) opening ≡ filled
      puts-done =
          let z = length-replicate {A = ℕ} (4096 * pages) 0 in
          let a = pages_room (n * size) in
          let b = pages_least (n * size) in
          puts_walk own 1 0 pages bytes [] (replicate (4096 * pages) 0) opening refl (λ h. refl) (omega arith) (omega arith) (omega arith)

      abbrev Ends : List Op → Type 0
      Ends ops = EndsAsFalling own (4096 * pages) ops opening (take (4096 * pages) (flat pool)) (blocks_told left) replies (recorded own log)

      ends : EndsAsFalling own (4096 * pages) script.ops opening (take (4096 * pages) (flat pool)) (blocks_told left) replies (recorded own log)
      ends = subst (λ (ops : List Op). Ends ops) (no_flips_in w.fallen.flips 1 script.ops (no-overwrite 0 pages bytes request refl)) w.fallen.ends

      abbrev falls : Block → Option (List ℕ)
      falls = of_blocks ends.falls

      abbrev its : ℕ → Block
      its k = block_of (suc pages) v k

      abbrev steps : ℕ → Step
      steps k = Writes (its k) app (body_of size segs k)

      numbered : 1 + pages ≡ suc pages
      numbered = omega arith

      walked : falling_walk own falls (steps_from own 1 script.ops) (hidden (4096 * pages) opening) ≡ falling_walk own falls (each_from 0 n steps) filled
      walked =
          ap (falling_walk own falls (steps_from own 1 script.ops)) (all-own script (shapes_of us) (blocks_told us))
          ∙ fall-puts own falls 1 0 pages bytes (request ∷ []) opening
          ∙ (λ i. falling_walk own falls (steps_from own (numbered i) (request ∷ [])) (puts-done i))
          ∙ ap (λ (xs : List Step). falling_walk own falls xs filled) (append-nil (each_from 0 n steps))

      abbrev found : List (Option Why)
      found = whys own falls steps n filled

      said : replies ≡ replicate pages Silent ++ (whole_or_bad (bad_from 0 found) ∷ [])
      said =
          ends.replies_are
          ∙ ap (falling_replies own falls 1 script.ops) (all-own script (shapes_of us) (blocks_told us))
          ∙ say-puts own falls 1 0 pages bytes (request ∷ []) opening
          ∙ (λ i. replicate pages Silent ++ falling_replies own falls (numbered i) (request ∷ []) (puts-done i))

      count : length found ≡ n
      count = whys-count own falls steps n filled

      found-is : found_by n replies ≡ found
      found-is = ap (found_by n) said ∙ found-last n pages found count

      cell-is : (k : ℕ) → k < n → stored_cell own.site (route own (its k)) ≡ home m (v + k)
      cell-is k l = (alike s t half p is fits us (suc pages) k l).stored ∙ at-home k

      brings : (k : ℕ) → k < n → record { body = gather 0 (body_of size segs k) filled.bytes; app = app } ≡ brought k
      brings k l = ap (λ (x : List ℕ). record { body = x; app = app }) (data_there s t half p is fits us k l bytes (drop (length bytes) (replicate (4096 * pages) 0)) whole)

      blocks-are : blocks_told left ≡ (falling_walk own falls (each_from 0 n steps) filled).blocks
      blocks-are = ends.blocks_are ∙ ap (λ (c : State). c.blocks) walked

      apart-cells : (k j : ℕ) → k < n → j < n → stored_cell own.site (route own (its k)) ≡ stored_cell own.site (route own (its j)) → k ≡ j
      apart-cells k j l h e = apart k j l h (sym (cell-is k l) ∙ e ∙ cell-is j h)

      same-write : (k : ℕ) (l : k < n) → writing own (its k) (record { body = gather 0 (body_of size segs k) filled.bytes; app = app }) ≡ writing m (there k) (brought k)
      same-write k l = (alike s t half p is fits us (suc pages) k l).writes (record { body = gather 0 (body_of size segs k) filled.bytes; app = app }) ∙ ap (writing m (there k)) (brings k l)

      left-at : (k : ℕ) (l : k < n) → get_or (falling_walk own falls (each_from 0 n steps) filled).blocks (stored_cell own.site (route own (its k))) [] ≡ get_or (blocks_told left) (home m (v + k)) []
      left-at k l = λ i. get_or (sym blocks-are i) (cell-is k l i) []

      one : (k : ℕ) (l : k < n) → Wrote own falls its app (body_of size segs) n filled apart-cells k
      one k l = wrote own falls its app (body_of size segs) n filled apart-cells k l (subst (λ (x : ℕ). x < length (blocks_told us)) (sym (cell-is k l)) (inside k l))

      all : WroteEach m n there brought (blocks_told us) (blocks_told left) found
      all = record {
        stores = λ k l e.
            (let x = (one k l).stores e in (
              x.0,
              (
                sym (same-write k l) ∙ x.1.0,
                sym (left-at k l) ∙ x.1.1
                    ∙ (alike s t half p is fits us (suc pages) k l).leaves (get_or (blocks_told us) (stored_cell own.site (route own (its k))) []) x.0
                    ∙ ap (λ (c : ℕ). m.site.device.leaves (route m (there k)) (get_or (blocks_told us) c []) x.0) (cell-is k l),
              ),
            ));
        may = λ k l stored e. (one k l).may stored (same-write k l ∙ e);
        stays = λ k l why e o. sym (left-at k l) ∙ (one k l).stays why e o ∙ ap (λ (x : ℕ). get_or (blocks_told us) x []) (cell-is k l);
        elsewhere = λ c off. ap (λ (bs : List (List ℕ)). get_or bs c []) blocks-are
            ∙ all_elsewhere own falls its app (body_of size segs) c 0 n filled (λ k z l e. off k (omega (arith, l)) (sym (cell-is k (omega (arith, l))) ∙ e));
        count = count;
      }

      pub fell-write : FellWrite left replies
      fell-write = record {
        shapes = w.shapes;
        wrote-each = subst (λ (f : List (Option Why)). WroteEach m n there brought (blocks_told us) (blocks_told left) f) (sym found-is) all;
        says = said ∙ ap (λ (f : List (Option Why)). replicate pages Silent ++ (whole_or_bad (bad_from 0 f) ∷ [])) (sym found-is);
      }
