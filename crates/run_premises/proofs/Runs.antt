-- Along the steps of a run whose faults have the form: what stands in the pages and on the volume, and that each fault is shown.
use Rattle.std.proofs.Common.{◌≡◌, ℕ, suc, ◌+◌, ◌-◌, ◌%◌, ◌^◌, Bool, true, false, eqb, ◌&&◌, not, List, [], ◌∷◌, get_or, refl, sym, ap, subst, ◌∙◌, arith}
use Rattle.std.specs.Prelude.{All}
use Rattle.std.specs.List.{list_all, list_any}
use Rattle.std.proofs.lemmas.Bool.{and_from, and_parts, eq-eqb, false≢true, false_from_ne_true}
use Rattle.fault_schedule.specs.Altered.{is_line_of, is_same}
use Rattle.fault_schedule.specs.declared.fault.Crossing.{Crossing}
use Rattle.fault_schedule.specs.declared.fault.Crossing.TheVariants.{HostToAdapter, MediumToTarget, TargetToMedium}
use Rattle.fault_schedule.specs.declared.fault.FaultLine.{FaultLine}
use Rattle.integrity_payload.specs.declared.payload.Owner.TheVariants.{Block as OfBlock, App as OfApp}
use Rattle.stack_ops.specs.declared.op.Op.{Op}
use Rattle.stack_ops.specs.declared.op.Op.TheVariants.{Fetch, FetchPi, Fill, Overwrite, Put, Seal, Show, Wait, Write, WritePi}
use Rattle.volume_table.specs.Places.{volume_len}
use Rattle.block_path.specs.Acts.{State}
use Rattle.block_path.proofs.Cells.{AllBelow, below}
use Rattle.run_laws.specs.Passed.{AllFit, Fits, LiesInImage, detectable, has_flip, is_flip, steps_from, Block, Setting, block_of, route, Reads, Seals, Step, Writes, WritesPi, body_of, frame_at, steps_of, tuple_of, AreClean, NoneEscapes}
use Rattle.run_laws.proofs.Passed.{frame_length, part_length, below_replicate}
use Rattle.run_laws.proofs.Layers.{checked}
use Rattle.run_laws.proofs.Reading.{checked_form, none_escapes}
use Rattle.stack_ops.specs.Ops.{first_virt, is_overwrite}
use Rattle.run_premises.specs.Forms.{brings_tuples, is_good_line, is_stored_altered, op_of, virt_of}
use Rattle.run_premises.specs.FormedRun.{HasFormedFaults, IsOfBytes}
use Rattle.run_premises.proofs.Named.{AllFitting, Brings, IsNamed, all_suit, kept_there, virt_is}
use Rattle.run_premises.proofs.Shown.{all_shown, begins}
use Rattle.run_premises.proofs.Ways.{the_line}

pub mends : (a b : Bool) → (a && b) ≡ false → a ≡ true → b ≡ true → ⊥
mends true true h p q = false≢true (sym h)
mends true false h p q = false≢true q
mends false b h p q = false≢true p

pub if_all : (a b : Bool) → (a && b) ≡ false → a ≡ true → b ≡ false
if_all a b h p = false_from_ne_true b (mends a b h p)

module _ (m' : Setting) (ops : List Op) (even : m'.size % 2 ≡ 0) (flips : All (λ (line : FaultLine). IsOfBytes line.kind) m'.site.faults)
    (form : list_all (is_good_line m'.mode.kind m'.size m'.site.faults ops) m'.site.faults ≡ true) (image : List (List ℕ)) (lies : LiesInImage (checked m') (volume_len m'.entries) image) where
  abbrev m : Setting
  m = checked m'

  abbrev faults : List FaultLine
  faults = m'.site.faults

  -- a block that is altered on its way from the medium isn't on its way there
  whole_there : (b : Block) → IsNamed m' ops b → has_flip m b MediumToTarget ≡ true → is_stored_altered ops faults b.virt ≡ false
  whole_there b e q =
      let l = the_line m' ops even flips form b MediumToTarget q in
      let same : is_same l.line.at MediumToTarget ≡ true = ap (λ at. is_same at MediumToTarget) l.is.crossing in
      ap (is_stored_altered ops faults) (sym (virt_is m' ops b MediumToTarget l.line l.is e)) ∙ if_all (is_same l.line.at MediumToTarget) (is_stored_altered ops faults (virt_of ops l.line)) l.undoes same

  -- no line alters a block whose tuple an application brings on its way to the adapter
  not_mended : (b : Block) → Brings m' ops b → has_flip m b HostToAdapter ≡ true → ⊥
  not_mended b t q =
      let l = the_line m' ops even flips form b HostToAdapter q in
      mends (is_same l.line.at HostToAdapter) (brings_tuples (op_of ops l.line.op)) l.mends (ap (λ at. is_same at HostToAdapter) l.is.crossing) (ap (λ label. brings_tuples (op_of ops label.op)) l.is.labelled ∙ t)

  pub steps_shown : (steps : List Step) (s : State) → AllFitting m' ops steps → NoneEscapes m steps s → s.blocks ≡ image → AllBelow 256 s.bytes → AreClean m s.blocks → detectable m steps s ≡ true
  steps_shown steps s fit e same pages clean =
      all_shown m' ops even flips form image lies (IsNamed m' ops) (Brings m' ops) (is_stored_altered ops faults) (kept_there m' ops) whole_there not_mended steps s fit e
      (begins m' ops even flips form image lies (IsNamed m' ops) (Brings m' ops) (is_stored_altered ops faults) (kept_there m' ops) whole_there not_mended s same pages clean)

formed : (m' : Setting) (ops : List Op) (opening : State) → HasFormedFaults (checked m') ops opening → detectable (checked m') (steps_from (checked m') 1 ops) opening ≡ true
formed m' ops opening run =
    let form = (and_parts (list_all (is_good_line m'.mode.kind m'.size m'.site.faults ops) m'.site.faults) (not (list_any is_overwrite ops)) run.form).0 in
    steps_shown m' ops run.even run.flips form opening.blocks run.lies (steps_from (checked m') 1 ops) opening
    (all_suit m' ops run.fit)
    (none_escapes (checked m') 1 ops opening run.no_escape) refl (below 256 opening.bytes run.pages) run.clean

pub shown_by_form : (m : Setting) (ops : List Op) (opening : State) → HasFormedFaults m ops opening → detectable m (steps_from m 1 ops) opening ≡ true
shown_by_form m ops opening run =
    let e = checked_form m run.checked in
    subst (λ x. detectable x (steps_from x 1 ops) opening ≡ true) (sym e) (formed m ops opening (subst (λ x. HasFormedFaults x ops opening) e run))
