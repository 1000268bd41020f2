-- A read with tuples on a leg where store calls may fail: what is found of each of its blocks.
use Rattle.std.proofs.Common.{◌≡◌, ◌<◌, ◌⊎◌, inl, inr, ℕ, zero, ◌+◌, ◌*◌, List, [], ◌∷◌, length, get_or, take, Option, Some, None, refl, sym, ap, subst, ◌∙◌, append-nil}
use Rattle.std.specs.Prelude.{Ok}
use Rattle.page_pool.specs.declared.segs.Seg.{Seg}
use Rattle.page_pool.specs.Cells.{flat}
use Rattle.pi_tuple.specs.declared.checks.Check.{Check}
use Rattle.integrity_payload.specs.declared.payload.Owner.TheVariants.{Block as OfBlock, App as OfApp}
use Rattle.bio_core.specs.declared.fate.Why.{Why}
use Rattle.bio_core.specs.declared.fate.Why.TheVariants.{Medium}
use Rattle.rig_api.specs.Log.{LogEntry}
use Rattle.rig_api.specs.Target.{Stored}
use Rattle.volume_table.specs.Tables.{Table}
use Rattle.dix_adapter.specs.Ways.{blocks_told, shapes_of}
use Rattle.block_path.specs.Acts.{State}
use Rattle.block_path.specs.Blocks.{fetched_cell}
use Rattle.block_path.specs.Moves.{hidden}
use Rattle.block_path.specs.WayIn.{Delivers, Spoils, Stops, WayIn, comes_in, delivered_of, delivered_unless, owner_finds, mapped_back, verified}
use Rattle.block_path.specs.declared.route.Route.{Route}
use Rattle.stack_ops.specs.declared.op.Op.{Op}
use Rattle.stack_ops.specs.declared.reply.Reply.{Reply}
use Rattle.walk_laws.specs.Past.{steps_from}
use Rattle.walk_laws.specs.ScriptWalk.{bad_from, whole_or_bad}
use Rattle.walk_laws.specs.Settings.{Block, Setting, block_of, route}
use Rattle.walk_laws.specs.Steps.{Reads, Step, each_from, frame_at}
use Rattle.run_laws.specs.FallingReads.{falling_replies}
use Rattle.run_laws.specs.StoreFaults.{falling_walk}
use Rattle.run_laws.specs.Records.{recorded}
use Rattle.stack_walk_laws.specs.AtTheEnd.{EndsAsFalling}
use Rattle.stack_walk_laws.specs.Falls.{of_blocks}
use Rattle.stack_walk_laws.proofs.NoFlips.{no_flips_in}
use Rattle.script_text.specs.declared.script.Script.{Script}
use Rattle.script_stack.specs.Followed.{HasFallen, failed_in, opening_of, setting_of}
use Rattle.mirror_laws.specs.OnLegs.{why_of}
use Rattle.mirror_laws.specs.Repair.{reading}
use Rattle.mirror_volume.specs.declared.piece.Piece.{Piece}
use Rattle.mirror_volume.specs.Inner.{first_label, first_virt, page_segs, pages_for, read_pi_script}
use Rattle.mirror_volume.specs.Legs.{mirror_setting}
use Rattle.mirror_volume.specs.LegRuns.{found_by}
use Rattle.mirror_volume.specs.MirrorScript.{IsMirrorScript, IsPieceWithTuples}
use Rattle.mirror_volume.proofs.Falling.{all_keep, read_found, whys}
use Rattle.mirror_volume.proofs.FellLegs.{LooksEach, Says, all-own, whys-count}
use Rattle.mirror_volume.proofs.OnLeg.{alike}
use Rattle.mirror_volume.proofs.Replied.{found-last}
use Rattle.mirror_volume.proofs.WithTuples.{as_piece}

-- ---- a read with tuples

-- What the block layer would be handed the application is handed too.
app-too : (r : Route) (came : WayIn) (frame : List ℕ) → delivered_of (verified r OfBlock came) ≡ Ok frame → delivered_of (verified r OfApp came) ≡ Ok frame
app-too r (Stops why) frame e = absurd cc
app-too r (Spoils why carried) frame e = absurd cc
app-too r (Delivers carried x) frame e = by (owner_finds r (mapped_back r x)) e where
  by : (o : Option Check) → delivered_of (delivered_unless OfBlock carried (mapped_back r x) o) ≡ Ok frame → delivered_of (delivered_unless OfApp carried (mapped_back r x) o) ≡ Ok frame
  by None e = e
  by (Some check) e = absurd cc

module _ (s : Script) (t : Table) (half : ℕ) (p : Piece) (is : IsMirrorScript s t half) (fits : IsPieceWithTuples s.block half p) (us : List Stored) where
  abbrev m : Setting
  m = mirror_setting s t us

  abbrev v : ℕ
  v = first_virt half p

  abbrev n : ℕ
  n = p.n

  abbrev size : ℕ
  size = s.block

  abbrev pages : ℕ
  pages = pages_for (p.n * s.block)

  abbrev more : ℕ
  more = pages_for (p.n * 8)

  abbrev segs : List Seg
  segs = page_segs 0 pages (n * size)

  abbrev tuples : List Seg
  tuples = page_segs pages more (n * 8)

  abbrev pub seen : ℕ → Block
  seen k = record { op = p.op; k = first_label p + k; virt = v + k }

  pub record FellLook (left : List Stored) (replies : List Reply) : Type 0 where
    pub shapes : shapes_of left ≡ shapes_of us
    pub blocks : blocks_told left ≡ blocks_told us
    pub looks-each : LooksEach m n seen (blocks_told us) (found_by n replies)
    pub says : Says 0 replies (found_by n replies)

  module _ (left : List Stored) (pool : List (List ℕ)) (log : List LogEntry) (replies : List Reply) (w : HasFallen (read_pi_script s half p) t us left pool log replies) where
    abbrev reader : Script
    reader = read_pi_script s half p

    abbrev own : Setting
    own = setting_of reader t (shapes_of us) (failed_in replies)

    abbrev begun : State
    begun = opening_of reader (shapes_of us) (blocks_told us)

    abbrev Ends : List Op → Type 0
    Ends ops = EndsAsFalling own (4096 * (pages + more)) ops begun (take (4096 * (pages + more)) (flat pool)) (blocks_told left) replies (recorded own log)

    ends : EndsAsFalling own (4096 * (pages + more)) reader.ops begun (take (4096 * (pages + more)) (flat pool)) (blocks_told left) replies (recorded own log)
    ends = subst (λ (ops : List Op). Ends ops) (no_flips_in w.fallen.flips 1 reader.ops refl) w.fallen.ends

    abbrev falls : Block → Option (List ℕ)
    falls = of_blocks ends.falls

    abbrev its : ℕ → Block
    its k = block_of 1 v k

    abbrev to : ℕ → List ℕ
    to k = frame_at size segs tuples k

    abbrev steps : ℕ → Step
    steps k = Reads (its k) OfApp (to k)

    walked : falling_walk own falls (steps_from own 1 reader.ops) (hidden (4096 * (pages + more)) begun) ≡ falling_walk own falls (each_from 0 n steps) begun
    walked =
        ap (falling_walk own falls (steps_from own 1 reader.ops)) (all-own reader (shapes_of us) (blocks_told us))
        ∙ ap (λ (xs : List Step). falling_walk own falls xs begun) (append-nil (each_from 0 n steps))

    abbrev found : List (Option Why)
    found = whys own falls steps n begun

    said : replies ≡ whole_or_bad (bad_from 0 found) ∷ []
    said = ends.replies_are ∙ ap (falling_replies own falls 1 reader.ops) (all-own reader (shapes_of us) (blocks_told us))

    count : length found ≡ n
    count = whys-count own falls steps n begun

    found-is : found_by n replies ≡ found
    found-is = ap (found_by n) said ∙ found-last n zero found count

    each-one : (k : ℕ) → k < n → (frame : List ℕ) → reading m (seen k) (blocks_told us) ≡ Ok frame → (get_or found k None ≡ Some Medium) ⊎ (get_or found k None ≡ None)
    each-one k l frame e =
        let r = route own (its k) in
        let came = comes_in own.site.faults own.site.device r (get_or (blocks_told us) (fetched_cell own.site r) []) in
        let there = (alike s t half p is (as_piece s.block half p fits) us 1 k l).reads (blocks_told us) ∙ e in
        elim (read_found own falls its OfApp to n begun k l) [ inl medium ↦ inl medium | inr same ↦ inr (same ∙ ap why_of (app-too r came frame there)) ]

    pub fell-look : FellLook left replies
    fell-look = record {
      shapes = w.shapes;
      blocks = ends.blocks_are ∙ ap (λ (c : State). c.blocks) walked ∙ all_keep own falls its OfApp to 0 n begun;
      looks-each = subst (λ (f : List (Option Why)). LooksEach m n seen (blocks_told us) f) (sym found-is) (record { each = each-one; count = count });
      says = said ∙ ap (λ (f : List (Option Why)). whole_or_bad (bad_from 0 f) ∷ []) (sym found-is);
    }
