-- Along all that a script asks of the legs, under faults that have the form: what stands in the pages and on the volume, and that each fault is shown or is of a block that the medium fails.
-- A line names a block of a mirror on either leg, and a step is asked of both: so blocks and steps are told otherwise here than in `run_premises/proofs/Known`; both use its `all_accounted`.
use Rattle.std.proofs.Common.{◌≡◌, ◌<◌, ◌≤◌, ℕ, zero, suc, ◌+◌, ◌-◌, ◌%◌, ◌^◌, Bool, true, false, eqb, ◌&&◌, not, List, [], ◌∷◌, ◌++◌, length, get_or, refl, sym, ap, subst, ◌∙◌, arith}
use Rattle.std.specs.Prelude.{All, nat_abs, pos}
use Rattle.std.specs.List.{list_all, list_any}
use Rattle.std.proofs.lemmas.Bool.{and_from, and_parts, eq-eqb, false≢true, not-true, or_parts}
use Rattle.fault_schedule.specs.Altered.{is_line_of, is_same, shift_of}
use Rattle.fault_schedule.specs.declared.fault.Crossing.{Crossing}
use Rattle.fault_schedule.specs.declared.fault.Crossing.TheVariants.{AdapterToTarget, MediumToTarget, TargetToMedium}
use Rattle.fault_schedule.specs.declared.fault.FaultLine.{FaultLine}
use Rattle.integrity_payload.specs.declared.payload.Owner.{Owner}
use Rattle.integrity_payload.specs.declared.payload.Owner.TheVariants.{Block as OfBlock}
use Rattle.stack_ops.specs.declared.op.Op.{Op}
use Rattle.stack_ops.specs.declared.op.Op.TheVariants.{Fetch, FetchPi, Fill, Overwrite, Put, Seal, Show, Wait, Write, WritePi}
use Rattle.volume_table.specs.Places.{volume_len}
use Rattle.block_path.specs.Acts.{State}
use Rattle.block_path.proofs.Cells.{AllBelow, below}
use Rattle.walk_laws.specs.CalmRun.{LiesInImage}
use Rattle.walk_laws.specs.Detectable.{accounted}
use Rattle.walk_laws.specs.FirstLayer.{has_flip, is_flip, is_misdirected, keeps_none, keeps_part, tears}
use Rattle.walk_laws.specs.Past.{steps_from}
use Rattle.walk_laws.specs.Settings.{Block, Setting, block_of, route}
use Rattle.walk_laws.specs.Steps.{Alters, Reads, Seals, Sets, Shows, Step, Writes, WritesPi, body_of, each_from, steps_of}
use Rattle.walk_laws.specs.UnderMap.{AreClean, NoneEscapes}
use Rattle.walk_laws.proofs.CalmRuns.{part_length}
use Rattle.walk_laws.proofs.TupleFrames.{below_replicate}
use Rattle.run_laws.proofs.Layers.{checked}
use Rattle.run_laws.proofs.Reading.{checked_form}
use Rattle.stack_ops.specs.Ops.{first_virt, is_overwrite}
use Rattle.run_premises.specs.Forms.{is_shown, is_shown_line, kind_at, label_of, mask_of, op_of}
use Rattle.run_premises.specs.FormedRun.{IsOfBytes}
use Rattle.run_premises.proofs.Lines.{IsLineOf, line_of, none_of, pick}
use Rattle.run_premises.proofs.Runs.{if_all}
use Rattle.run_premises.proofs.Accounts.{AllSuit, Suits, all_accounted, begins, both_suit}
use Rattle.volume_table.specs.declared.device.DeviceInfo.{DeviceInfo}
use Rattle.mirror_laws.specs.Mirror.{Mirror, all_asked, asked, asks, blocks_in, count_of, done, mirror_opened, twin}
use Rattle.mirror_laws.specs.OneGood.{AllBind, Binds, loses_none, script_asks, step_loses}
use Rattle.mirror_form_laws.specs.Forms.{is_altered_on_legs, is_good_on_legs, may_undo_on_legs, virt_in, virt_on_legs}
use Rattle.mirror_form_laws.specs.FormedMirror.{AllPutBytes, HasFormedLegs, PutsBytes}
use Rattle.mirror_form_laws.proofs.Lines.{all_either, flip_is_good, is_either, keeps_none_of, shifts_none}
use Rattle.mirror_form_laws.proofs.Places.{on_leg0, on_leg1}

module _ (m' : Setting) (half : ℕ) (ops : List Op) (even : m'.size % 2 ≡ 0) (flips : All (λ (line : FaultLine). IsOfBytes line.kind) m'.site.faults)
    (form : list_all (is_good_on_legs m'.mode.kind m'.size half m'.site.faults ops) m'.site.faults ≡ true) (image : List (List ℕ)) (lies : LiesInImage (checked m') (volume_len m'.entries) image) where
  abbrev m : Setting
  m = checked m'

  abbrev n : ℕ
  n = m'.size

  abbrev count : ℕ
  count = volume_len m'.entries

  abbrev faults : List FaultLine
  faults = m'.site.faults

  -- the block is the one that its op names at its place, on the leg of that place
  abbrev pub IsNamed : Block → Type 0
  IsNamed b = virt_in half (op_of ops b.op) b.k ≡ b.virt

  -- no application brings a tuple to a mirror
  abbrev pub Brings : Block → Type 0
  Brings b = ⊥

  abbrev IsFit : Step → Type 0
  IsFit = Suits m IsNamed Brings

  abbrev pub AllFitting : List Step → Type 0
  AllFitting = AllSuit m IsNamed Brings

  -- ---- lines of a block

  virt_is : (b : Block) (at : Crossing) (line : FaultLine) → IsLineOf line at (route m b).label → IsNamed b → virt_on_legs half ops line ≡ b.virt
  virt_is b at line h e = ap (λ label. virt_in half (op_of ops label.op) label.k) h.labelled ∙ e

  -- where no line alters the virtual block on its way to the medium, none alters this one
  kept_there : (b : Block) → IsNamed b → is_altered_on_legs half ops faults b.virt ≡ false → has_flip m b TargetToMedium ≡ false
  kept_there b e h =
      none_of (λ line. is_line_of line TargetToMedium (route m b).label && is_flip line.kind) (λ line. is_same line.at TargetToMedium && eqb (virt_on_legs half ops line) b.virt) faults (λ line t.
      let l = line_of line TargetToMedium (route m b).label t in
      and_from (is_same line.at TargetToMedium) (eqb (virt_on_legs half ops line) b.virt) (ap (λ at. is_same at TargetToMedium) l.crossing) (eq-eqb (virt_on_legs half ops line) b.virt (virt_is b TargetToMedium line l e)))
      h

  -- ---- what the form gives

  -- a line that alters the block at this crossing
  record Line (b : Block) (at : Crossing) : Type 0 where
    line : FaultLine
    is : IsLineOf line at (route m b).label
    shown : is_shown n (kind_at m'.mode.kind at) (mask_of n faults at (route m b).label) ≡ true
    undoes : may_undo_on_legs half ops faults line ≡ false

  the_line : (b : Block) (at : Crossing) → has_flip m b at ≡ true → Line b at
  the_line b at h =
      let kind = m'.mode.kind in
      let c = pick (λ line. is_line_of line at (route m b).label && is_flip line.kind) (is_good_on_legs kind n half faults ops) faults h form in
      let l = line_of c.line at (route m b).label c.one in
      let p = and_parts (is_shown_line kind n faults c.line) (not (may_undo_on_legs half ops faults c.line)) (flip_is_good kind n half faults ops c.line l.flips c.other) in
      let q = and_parts (is_flip c.line.kind) (is_shown n (kind_at kind c.line.at) (mask_of n faults c.line.at (label_of c.line))) p.0 in
      record {
        line = c.line;
        is = l;
        shown = subst (λ at. is_shown n (kind_at kind at) (mask_of n faults at (route m b).label) ≡ true) l.crossing
            (subst (λ label. is_shown n (kind_at kind c.line.at) (mask_of n faults c.line.at label) ≡ true) l.labelled q.1);
        undoes = not-true _ p.1;
      }

  either : list_all is_either faults ≡ true
  either = all_either m'.mode.kind n half faults ops faults form

  lines : (b : Block) (at : Crossing) → has_flip m b at ≡ true → is_shown n (kind_at m'.mode.kind at) (mask_of n faults at (route m b).label) ≡ true
  lines b at q = (the_line b at q).shown

  unmoved : (at : Crossing) (op : ℕ) → shift_of faults at op ≡ pos 0
  unmoved at op = shifts_none faults either at op

  straight : (b : Block) → has_flip m b TargetToMedium ≡ true → is_misdirected m b ≡ false
  straight b q = ap (λ z. not (eqb (nat_abs z) 0)) (unmoved TargetToMedium b.op)

  untorn : (b : Block) → tears m b ≡ false
  untorn b = ap keeps_part (keeps_none_of faults either (route m b).label)

  -- a block that is altered on its way from the medium isn't on its way there
  whole_there : (b : Block) → IsNamed b → has_flip m b MediumToTarget ≡ true → is_altered_on_legs half ops faults b.virt ≡ false
  whole_there b e q =
      let c = the_line b MediumToTarget q in
      let same : is_same c.line.at MediumToTarget ≡ true = ap (λ at. is_same at MediumToTarget) c.is.crossing in
      ap (is_altered_on_legs half ops faults) (sym (virt_is b MediumToTarget c.line c.is e)) ∙ if_all (is_same c.line.at MediumToTarget) (is_altered_on_legs half ops faults (virt_on_legs half ops c.line)) c.undoes same

  pub steps_accounted : (steps : List Step) (s : State) → AllFitting steps → NoneEscapes m steps s → s.blocks ≡ image → AllBelow 256 s.bytes → AreClean m s.blocks → accounted m steps s ≡ true
  steps_accounted steps s fit e same pages clean =
      all_accounted m' even flips lines (unmoved AdapterToTarget) (unmoved MediumToTarget) untorn straight image lies IsNamed Brings (is_altered_on_legs half ops faults) kept_there whole_there (λ b h. absurd h) steps s fit e
      (begins m' even flips lines (unmoved AdapterToTarget) (unmoved MediumToTarget) untorn straight image lies IsNamed Brings (is_altered_on_legs half ops faults) kept_there whole_there (λ b h. absurd h) s same pages clean)

  -- no block is lost
  step_kept : (step : Step) → step_loses m step ≡ false
  step_kept (Sets at values) = refl
  step_kept (Shows at) = refl
  step_kept (Seals body tuple app rtag) = refl
  step_kept (Writes b app body) = ap keeps_none (keeps_none_of faults either (route m b).label)
  step_kept (WritesPi b frame) = ap keeps_none (keeps_none_of faults either (route m b).label)
  step_kept (Reads b owner to) = refl
  step_kept (Alters dev lba change) = refl

  pub steps_kept : (steps : List Step) → loses_none m steps ≡ true
  steps_kept [] = refl
  steps_kept (step ∷ steps) = and_from (not (step_loses m step)) (loses_none m steps) (ap not (step_kept step)) (steps_kept steps)

  -- ---- what a script asks of the legs

  -- a step of the script: what it asks suits, on either leg
  abbrev OnLegs : Block → Type 0
  OnLegs b = (IsNamed b × (b.virt < count)) × (IsNamed (twin m half (count_of ops) b) × (half + b.virt < count))

  abbrev Asks : Step → Type 0
  Asks (Sets at values) = AllBelow 256 values
  Asks (Shows at) = Unit {0}
  Asks (Seals body tuple app rtag) = Unit {0}
  Asks (Writes b app body) = OnLegs b × ((length body ≡ n) × (app < 2 ^ 16))
  Asks (WritesPi b frame) = Unit {0}
  Asks (Reads b owner to) = OnLegs b
  Asks (Alters dev lba change) = ⊥

  abbrev AllAsk : List Step → Type 0
  AllAsk [] = Unit {0}
  AllAsk (step ∷ steps) = Asks step × AllAsk steps

  both_ask : (xs ys : List Step) → AllAsk xs → AllAsk ys → AllAsk (xs ++ ys)
  both_ask [] ys h k = k
  both_ask (x ∷ xs) ys h k = (h.0, both_ask xs ys h.1 k)

  read_suits : (f0 f1 d : Bool) (b c : Block) (owner : Owner) (to : List ℕ) → IsFit (Reads b owner to) → IsFit (Reads c owner to) → AllFitting (asked f0 f1 d (Reads b owner to) (Reads c owner to))
  read_suits true true true b c owner to h k = (h, tt)
  read_suits true true false b c owner to h k = (h, (k, tt))
  read_suits true false d b c owner to h k = (h, tt)
  read_suits false f1 d b c owner to h k = (k, tt)

  asks_suit : (step : Step) (s : Mirror) → Asks step → AllFitting (asks m half (count_of ops) step s)
  asks_suit (Sets at values) s h = (h, tt)
  asks_suit (Shows at) s h = (tt, tt)
  asks_suit (Seals body tuple app rtag) s h = (tt, tt)
  asks_suit (Writes b app body) s h = ((h.0.0.0, (h.0.0.1, h.1)), ((h.0.1.0, (h.0.1.1, h.1)), tt))
  asks_suit (WritesPi b frame) s h = tt
  asks_suit (Reads b owner to) s h = read_suits _ _ _ b (twin m half (count_of ops) b) owner to h.0 h.1
  asks_suit (Alters dev lba change) s h = absurd h

  all_asked_suit : (steps : List Step) (s : Mirror) → AllAsk steps → AllFitting (all_asked m half (count_of ops) steps s)
  all_asked_suit [] s h = tt
  all_asked_suit (step ∷ steps) s h =
      both_suit m IsNamed Brings (asks m half (count_of ops) step s) (all_asked m half (count_of ops) steps (done m half (count_of ops) step s)) (asks_suit step s h.0) (all_asked_suit steps (done m half (count_of ops) step s) h.1)

  each_asks : (k c : ℕ) (f : ℕ → Step) → ((j : ℕ) → j < k + c → Asks (f j)) → AllAsk (each_from k c f)
  each_asks k zero f h = tt
  each_asks k (suc c) f h = (h k (omega arith), each_asks (suc k) c f (λ j l. h j (omega (arith, l))))

  -- a block of a request that lies on the mirror
  on_legs : (long : count ≡ half + half) (i v : ℕ) (op : Op) (j : ℕ) → op_of ops i ≡ op → first_virt op ≡ v → v + blocks_in op ≤ half → j < blocks_in op → OnLegs (block_of i v j)
  on_legs long i v op j e f w l = (
    (ap (λ o. virt_in half o j) e ∙ on_leg0 half op j l ∙ ap (λ a. a + j) f, omega (arith, long, w, l)),
    (ap (λ o. virt_in half o (blocks_in o + j)) e ∙ on_leg1 half op j ∙ ap (λ a. half + (a + j)) f, omega (arith, long, w, l)),
  )

  op_asks : (devices : List DeviceInfo) (bytes : ℕ) (long : count ≡ half + half) (i : ℕ) (op : Op) → op_of ops i ≡ op → Binds m devices half bytes op → PutsBytes op → is_overwrite op ≡ false → AllAsk (steps_of m i op)
  op_asks devices bytes long i (Fill seg byte) e h p o = (below_replicate 256 seg.len byte p, tt)
  op_asks devices bytes long i (Put page off values) e h p o = (below 256 values p, tt)
  op_asks devices bytes long i (Show seg) e h p o = (tt, tt)
  op_asks devices bytes long i (Seal c body tuples app rtag) e h p o = absurd h
  op_asks devices bytes long i (Write v c body app) e h p o =
      each_asks 0 c (λ k. Writes (block_of i v k) app (body_of m.size body k))
      (λ j l. (on_legs long i v (Write v c body app) j e refl h.0 (omega (arith, l)), (part_length body m.size j c h.1.0 (omega (arith, l)), h.1.1)))
  op_asks devices bytes long i (Fetch v c body) e h p o = each_asks 0 c (λ k. Reads (block_of i v k) OfBlock (body_of m.size body k)) (λ j l. on_legs long i v (Fetch v c body) j e refl h.0 (omega (arith, l)))
  op_asks devices bytes long i (WritePi v c body tuples) e h p o = absurd h
  op_asks devices bytes long i (FetchPi v c body tuples) e h p o = absurd h
  op_asks devices bytes long i (Overwrite dev lba change) e h p o = absurd (false≢true (sym o))
  op_asks devices bytes long i Wait e h p o = tt

  -- the ops from op i on are the rest
  ops_ask : (devices : List DeviceInfo) (bytes : ℕ) (long : count ≡ half + half) (i : ℕ) (rest : List Op) → ((j : ℕ) → op_of ops (i + j) ≡ get_or rest j Wait) → AllBind m devices half bytes rest → AllPutBytes rest → list_any is_overwrite rest ≡ false
      → AllAsk (steps_from m i rest)
  ops_ask devices bytes long i [] e h p o = tt
  ops_ask devices bytes long i (op ∷ rest) e h p o =
      let first : op_of ops i ≡ op = (let z : i ≡ i + 0 = omega arith in ap (op_of ops) z ∙ e 0) in
      let none = or_parts (is_overwrite op) (list_any is_overwrite rest) o in
      both_ask (steps_of m i op) (steps_from m (suc i) rest) (op_asks devices bytes long i op first h.0 p.0 none.0)
      (ops_ask devices bytes long (suc i) rest (λ j. let z : suc i + j ≡ i + suc j = omega arith in ap (op_of ops) z ∙ e (suc j)) h.1 p.1 none.1)

  pub script_suits : (devices : List DeviceInfo) (opening : State) → count ≡ half + half → AllBind m devices half (length opening.bytes) ops → AllPutBytes ops → list_any is_overwrite ops ≡ false → AllFitting (script_asks m half ops opening)
  script_suits devices opening long bind puts none =
      all_asked_suit (steps_from m 1 ops) (mirror_opened half opening)
      (ops_ask devices (length opening.bytes) long 1 ops (λ j. let z : 1 + j - 1 ≡ j = omega arith in ap (λ v. get_or ops v Wait) z) bind puts none)

-- each fault is shown, or is of a block that the medium fails, and no block is lost
pub record IsKnown (m : Setting) (half : ℕ) (ops : List Op) (opening : State) : Type 0 where
  pub accounted : accounted m (script_asks m half ops opening) opening ≡ true
  pub kept : loses_none m (script_asks m half ops opening) ≡ true

formed : (m' : Setting) (devices : List DeviceInfo) (half : ℕ) (ops : List Op) (opening : State) → HasFormedLegs (checked m') devices half ops opening → IsKnown (checked m') half ops opening
formed m' devices half ops opening run =
    let p = and_parts (list_all (is_good_on_legs m'.mode.kind m'.size half m'.site.faults ops) m'.site.faults) (not (list_any is_overwrite ops)) run.form in
    record {
      accounted = steps_accounted m' half ops run.even run.flips p.0 opening.blocks run.lies (script_asks (checked m') half ops opening) opening
          (script_suits m' half ops run.even run.flips p.0 opening.blocks run.lies devices opening run.long run.bind run.puts (not-true _ p.1))
          run.no_escape refl (below 256 opening.bytes run.pages) run.clean;
      kept = steps_kept m' half ops run.even run.flips p.0 opening.blocks run.lies (script_asks (checked m') half ops opening);
    }

pub known_by_form : (m : Setting) (devices : List DeviceInfo) (half : ℕ) (ops : List Op) (opening : State) → HasFormedLegs m devices half ops opening → IsKnown m half ops opening
known_by_form m devices half ops opening run =
    let e = checked_form m run.checked in
    subst (λ x. IsKnown x half ops opening) (sym e) (formed m devices half ops opening (subst (λ x. HasFormedLegs x devices half ops opening) e run))
