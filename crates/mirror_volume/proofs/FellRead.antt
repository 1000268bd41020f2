-- A read on a leg where store calls may fail: what is found of each of its blocks, and what lands.
use Rattle.std.proofs.Common.{◌≡◌, ◌<◌, ◌≤◌, inl, inr, ℕ, zero, ◌+◌, ◌*◌, List, [], ◌∷◌, length, take, drop, Option, refl, sym, ap, subst, ◌∙◌, arith, append-nil}
use Rattle.std.proofs.lemmas.List.{length-replicate, length-take, take-take}
use Rattle.page_pool.specs.declared.segs.Seg.{Seg}
use Rattle.page_pool.specs.Cells.{flat, gather}
use Rattle.integrity_payload.specs.declared.payload.Owner.TheVariants.{Block as OfBlock}
use Rattle.bio_core.specs.declared.fate.Why.{Why}
use Rattle.rig_api.specs.Log.{LogEntry}
use Rattle.rig_api.specs.Target.{Stored}
use Rattle.volume_table.specs.Tables.{Table}
use Rattle.dix_adapter.specs.Ways.{blocks_told, shapes_of}
use Rattle.block_path.specs.Acts.{State}
use Rattle.block_path.specs.Moves.{hidden}
use Rattle.block_path.specs.WayIn.{delivered_of}
use Rattle.stack_ops.specs.declared.op.Op.{Op}
use Rattle.stack_ops.specs.declared.reply.Reply.{Reply}
use Rattle.walk_laws.specs.Past.{steps_from}
use Rattle.walk_laws.specs.ScriptWalk.{bad_from, whole_or_bad}
use Rattle.walk_laws.specs.Settings.{Block, Setting, block_of}
use Rattle.walk_laws.specs.Steps.{Reads, Step, body_of, each_from}
use Rattle.walk_laws.proofs.CalmRuns.{room as block_ends}
use Rattle.walk_laws.proofs.InSteps.{same_pages}
use Rattle.run_laws.specs.FallingReads.{falling_replies}
use Rattle.run_laws.specs.StoreFaults.{falling_walk, may_fall}
use Rattle.run_laws.specs.Records.{recorded}
use Rattle.stack_walk_laws.specs.AtTheEnd.{EndsAsFalling}
use Rattle.stack_walk_laws.specs.Falls.{of_blocks}
use Rattle.stack_walk_laws.proofs.NoFlips.{no_flips_in}
use Rattle.script_text.specs.declared.script.Script.{Script}
use Rattle.script_stack.specs.Followed.{HasFallen, failed_in, opening_of, setting_of}
use Rattle.mirror_laws.specs.OnLegs.{why_of}
use Rattle.mirror_laws.specs.Repair.{reading}
use Rattle.mirror_volume.specs.declared.piece.Piece.{Piece}
use Rattle.mirror_volume.specs.Inner.{first_label, first_virt, page_segs, pages_for, read_script}
use Rattle.mirror_volume.specs.Legs.{mirror_setting}
use Rattle.mirror_volume.specs.LegRuns.{found_by}
use Rattle.mirror_volume.specs.MirrorScript.{IsMirrorScript, IsPiece}
use Rattle.mirror_volume.proofs.Falling.{all_keep, listed_zeros, read_found, unlisted_lands, way_of, whys}
use Rattle.mirror_volume.proofs.FellLegs.{ReadEach, Says, all-own, whys-count}
use Rattle.mirror_volume.proofs.OnLeg.{alike, cells_are, pages_room}
use Rattle.mirror_volume.proofs.Replied.{found-last}
use Rattle.mirror_volume.proofs.Turns.{gathered}
use Rattle.mirror_volume.proofs.WithTuples.{within_pages}

-- ---- a request

module _ (s : Script) (t : Table) (half : ℕ) (p : Piece) (is : IsMirrorScript s t half) (fits : IsPiece s.block half p) (us : List Stored) where
  abbrev m : Setting
  m = mirror_setting s t us

  abbrev v : ℕ
  v = first_virt half p

  abbrev n : ℕ
  n = p.n

  abbrev size : ℕ
  size = s.block

  abbrev pages : ℕ
  pages = pages_for (p.n * s.block)

  abbrev segs : List Seg
  segs = page_segs 0 pages (n * size)

  -- block k of the piece, in the mirror's script
  abbrev pub there : ℕ → Block
  there k = record { op = p.op; k = first_label p + k; virt = v + k }

  -- ---- a read

  pub record FellRead (left : List Stored) (pool : List (List ℕ)) (replies : List Reply) : Type 0 where
    pub shapes : shapes_of left ≡ shapes_of us
    pub blocks : blocks_told left ≡ blocks_told us
    pub reads-each : ReadEach m size n there (blocks_told us) (flat pool) (found_by n replies)
    pub says : Says 0 replies (found_by n replies)

  module _ (left : List Stored) (pool : List (List ℕ)) (log : List LogEntry) (replies : List Reply) (w : HasFallen (read_script s half p) t us left pool log replies) where
    abbrev reader : Script
    reader = read_script s half p

    abbrev own : Setting
    own = setting_of reader t (shapes_of us) (failed_in replies)

    abbrev begun : State
    begun = opening_of reader (shapes_of us) (blocks_told us)

    abbrev Ends : List Op → Type 0
    Ends ops = EndsAsFalling own (4096 * pages) ops begun (take (4096 * pages) (flat pool)) (blocks_told left) replies (recorded own log)

    ends : EndsAsFalling own (4096 * pages) reader.ops begun (take (4096 * pages) (flat pool)) (blocks_told left) replies (recorded own log)
    ends = subst (λ (ops : List Op). Ends ops) (no_flips_in w.fallen.flips 1 reader.ops refl) w.fallen.ends

    abbrev falls : Block → Option (List ℕ)
    falls = of_blocks ends.falls

    abbrev its : ℕ → Block
    its k = block_of 1 v k

    abbrev steps : ℕ → Step
    steps k = Reads (its k) OfBlock (body_of size segs k)

    walked : falling_walk own falls (steps_from own 1 reader.ops) (hidden (4096 * pages) begun) ≡ falling_walk own falls (each_from 0 n steps) begun
    walked =
        ap (falling_walk own falls (steps_from own 1 reader.ops)) (all-own reader (shapes_of us) (blocks_told us))
        ∙ ap (λ (xs : List Step). falling_walk own falls xs begun) (append-nil (each_from 0 n steps))

    abbrev found : List (Option Why)
    found = whys own falls steps n begun

    said : replies ≡ whole_or_bad (bad_from 0 found) ∷ []
    said = ends.replies_are ∙ ap (falling_replies own falls 1 reader.ops) (all-own reader (shapes_of us) (blocks_told us))

    count : length found ≡ n
    count = whys-count own falls steps n begun

    found-is : found_by n replies ≡ found
    found-is = ap (found_by n) said ∙ found-last n zero found count

    pages-are : take (4096 * pages) (flat pool) ≡ (falling_walk own falls (each_from 0 n steps) begun).bytes
    pages-are = ends.pages_are ∙ ap (λ (c : State). c.bytes) walked

    pages-long : length (take (4096 * pages) (flat pool)) ≡ 4096 * pages
    pages-long = ap length pages-are ∙ same_pages (may_fall own falls) (each_from 0 n steps) begun ∙ length-replicate {A = ℕ} (4096 * pages) 0

    flat-long : n * size ≤ length (flat pool)
    flat-long =
        let a = pages_room (n * size) in
        let b = length-take (4096 * pages) (flat pool) in
        let c = pages-long in
        omega (arith, a, b, c)

    slice-is : (k : ℕ) → k < n → take size (drop (k * size) (flat pool)) ≡ gather 0 (body_of size segs k) (falling_walk own falls (each_from 0 n steps) begun).bytes
    slice-is k l =
        let ends = block_ends size k n l in
        let a = pages_room (n * size) in
        let c = pages-long in
        let within : take size (drop (k * size) (flat pool)) ≡ take size (drop (k * size) (take (k * size + size) (flat pool))) = within_pages (k * size) size size (flat pool) (omega arith) in
        let again : take size (drop (k * size) (take (4096 * pages) (flat pool))) ≡ take size (drop (k * size) (take (k * size + size) (take (4096 * pages) (flat pool)))) = within_pages (k * size) size size (take (4096 * pages) (flat pool)) (omega arith) in
        within
        ∙ ap (λ (xs : List ℕ). take size (drop (k * size) xs)) (sym (take-take (k * size + size) (4096 * pages) (flat pool) (omega (arith, ends, a))))
        ∙ sym again
        ∙ sym (gathered (k * size) size (take (4096 * pages) (flat pool)) (omega (arith, ends, a, c)))
        ∙ (λ i. gather 0 (sym (cells_are s t half p is fits us k l) i) (pages-are i))

    came-is : (k : ℕ) (l : k < n) → delivered_of (way_of own falls its OfBlock (body_of size segs) k begun) ≡ reading m (there k) (blocks_told us)
    came-is k l = (alike s t half p is fits us 1 k l).reads (blocks_told us)

    room : n * size ≤ length begun.bytes
    room = let a = pages_room (n * size) in let b = length-replicate {A = ℕ} (4096 * pages) 0 in omega (arith, a, b)

    all : ReadEach m size n there (blocks_told us) (flat pool) found
    all = record {
      either = λ k l. elim (read_found own falls its OfBlock (body_of size segs) n begun k l) [ inl medium ↦ inl medium | inr same ↦ inr (same ∙ ap why_of (came-is k l)) ];
      zeros = λ k l why e. slice-is k l ∙ listed_zeros own falls its OfBlock (body_of size segs) n begun size (λ j h. cells_are s t half p is fits us j h) room k l why e;
      lands = λ k l e frame c more. slice-is k l ∙ unlisted_lands own falls its OfBlock (body_of size segs) n begun size (λ j h. cells_are s t half p is fits us j h) room k l e frame (came-is k l ∙ c) more;
      count = count;
      long = flat-long;
    }

    pub fell-read : FellRead left pool replies
    fell-read = record {
      shapes = w.shapes;
      blocks = ends.blocks_are ∙ ap (λ (c : State). c.blocks) walked ∙ all_keep own falls its OfBlock (body_of size segs) 0 n begun;
      reads-each = subst (λ (f : List (Option Why)). ReadEach m size n there (blocks_told us) (flat pool) f) (sym found-is) all;
      says = said ∙ ap (λ (f : List (Option Why)). whole_or_bad (bad_from 0 f) ∷ []) (sym found-is);
    }
