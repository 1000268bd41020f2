-- A write on a leg where store calls may fail leaves what is stored elsewhere.
use Rattle.std.proofs.Common.{◌≡◌, ◌<◌, ℕ, zero, suc, ◌+◌, ◌*◌, List, [], ◌∷◌, get_or, drop, take, Option, refl, sym, ap, subst, ◌∙◌, arith, append-nil}
use Rattle.page_pool.specs.Cells.{flat}
use Rattle.page_pool.specs.declared.segs.Seg.{Seg}
use Rattle.rig_api.specs.Log.{LogEntry}
use Rattle.rig_api.specs.Target.{Stored}
use Rattle.volume_table.specs.Tables.{Table}
use Rattle.dix_adapter.specs.Ways.{blocks_told, shapes_of}
use Rattle.block_path.specs.Acts.{State}
use Rattle.block_path.specs.Moves.{hidden}
use Rattle.stack_ops.specs.declared.op.Op.{Op}
use Rattle.stack_ops.specs.declared.op.Op.TheVariants.{Write}
use Rattle.stack_ops.specs.declared.reply.Reply.{Reply}
use Rattle.walk_laws.specs.Past.{steps_from}
use Rattle.walk_laws.specs.ScriptWalk.{walk_from}
use Rattle.walk_laws.specs.Settings.{Block, Setting, block_of}
use Rattle.walk_laws.specs.Steps.{Step, Writes, body_of, each_from}
use Rattle.walk_laws.specs.UnderMap.{home}
use Rattle.run_laws.specs.StoreFaults.{falling_walk}
use Rattle.run_laws.specs.Records.{recorded}
use Rattle.stack_walk_laws.specs.AtTheEnd.{EndsAsFalling}
use Rattle.stack_walk_laws.specs.Falls.{of_blocks}
use Rattle.stack_walk_laws.proofs.NoFlips.{no_flips_in}
use Rattle.script_text.specs.declared.script.Script.{Script}
use Rattle.script_stack.specs.Followed.{HasFallen, failed_in, opening_of, setting_of}
use Rattle.mirror_volume.specs.declared.piece.Piece.{Piece}
use Rattle.mirror_volume.specs.Inner.{first_virt, page_segs, pages_for, puts, write_script}
use Rattle.mirror_volume.specs.Legs.{mirror_setting}
use Rattle.mirror_volume.specs.MirrorScript.{IsMirrorScript, IsPiece}
use Rattle.mirror_volume.proofs.Falling.{all_elsewhere}
use Rattle.mirror_volume.proofs.FellLegs.{all-own, fall-puts, no-overwrite}
use Rattle.mirror_volume.proofs.FellWrite.{at-home}
use Rattle.mirror_volume.proofs.OnLeg.{alike}

-- puts store nothing
puts-store : (m : Setting) (i page pages : ℕ) (bytes : List ℕ) (s : State) → (walk_from m i (puts page pages bytes) s).blocks ≡ s.blocks
puts-store m i page zero bytes s = refl
puts-store m i page (suc q) bytes s = puts-store m (suc i) (suc page) q (drop 4096 bytes) _

module _ (s : Script) (t : Table) (half : ℕ) (p : Piece) (is : IsMirrorScript s t half) (fits : IsPiece s.block half p) (us : List Stored) (app : ℕ) (bytes : List ℕ)
    (left : List Stored) (pool : List (List ℕ)) (log : List LogEntry) (replies : List Reply) (w : HasFallen (write_script s half p app bytes) t us left pool log replies) where
  abbrev pages : ℕ
  pages = pages_for (p.n * s.block)

  abbrev segs : List Seg
  segs = page_segs 0 pages (p.n * s.block)

  abbrev script : Script
  script = write_script s half p app bytes

  abbrev opening : State
  opening = opening_of script (shapes_of us) (blocks_told us)

  abbrev request : Op
  request = Write (first_virt half p) p.n segs app

  abbrev own : Setting
  own = setting_of script t (shapes_of us) (failed_in replies)

  abbrev filled : State
  filled = walk_from own 1 (puts 0 pages bytes) opening

  abbrev Ends : List Op → Type 0
  Ends ops = EndsAsFalling own (4096 * pages) ops opening (take (4096 * pages) (flat pool)) (blocks_told left) replies (recorded own log)

  ends : EndsAsFalling own (4096 * pages) script.ops opening (take (4096 * pages) (flat pool)) (blocks_told left) replies (recorded own log)
  ends = subst (λ (ops : List Op). Ends ops) (no_flips_in w.fallen.flips 1 script.ops (no-overwrite 0 pages bytes request refl)) w.fallen.ends

  abbrev falls : Block → Option (List ℕ)
  falls = of_blocks ends.falls

  abbrev its : ℕ → Block
  its k = block_of (suc pages) (first_virt half p) k

  abbrev body : ℕ → List ℕ
  body k = body_of s.block segs k

  abbrev steps : ℕ → Step
  steps k = Writes (its k) app (body k)

  numbered : 1 + pages ≡ suc pages
  numbered = omega arith

  walked : falling_walk own falls (steps_from own 1 script.ops) (hidden (4096 * pages) opening) ≡ falling_walk own falls (each_from 0 p.n steps) filled
  walked =
      ap (falling_walk own falls (steps_from own 1 script.ops)) (all-own script (shapes_of us) (blocks_told us))
      ∙ fall-puts own falls 1 0 pages bytes (request ∷ []) opening
      ∙ (λ i. falling_walk own falls (steps_from own (numbered i) (request ∷ [])) filled)
      ∙ ap (λ (xs : List Step). falling_walk own falls xs filled) (append-nil (each_from 0 p.n steps))

  pub fell-elsewhere : (c : ℕ) → ((k : ℕ) → k < p.n → home (mirror_setting s t us) (first_virt half p + k) ≡ c → ⊥) → get_or (blocks_told left) c [] ≡ get_or (blocks_told us) c []
  fell-elsewhere c off =
      ap (λ (bs : List (List ℕ)). get_or bs c []) (ends.blocks_are ∙ ap (λ (z : State). z.blocks) walked)
      ∙ all_elsewhere own falls its app body c 0 p.n filled
      (λ k z l e. off k (omega (arith, l)) (sym ((alike s t half p is fits us (suc pages) k (omega (arith, l))).stored ∙ at-home s t half p is fits us k) ∙ e))
      ∙ ap (λ (bs : List (List ℕ)). get_or bs c []) (puts-store own 1 0 pages bytes opening)
