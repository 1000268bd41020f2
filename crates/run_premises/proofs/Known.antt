-- Along the steps of a run whose faults have the form that admits blocks which the disk fails, loses and misdirects: each fault is shown, or is of such a block.
use Rattle.std.proofs.Common.{◌≡◌, ℕ, ◌%◌, Bool, true, false, eqb, ◌&&◌, ◌||◌, not, List, [], ◌∷◌, Option, Some, None, refl, sym, ap, subst, ◌∙◌, if◌then◌else◌}
use Rattle.std.specs.Prelude.{All, ℤ, is_some, pos, nat_abs, unwrap_or}
use Rattle.std.specs.List.{list_all, list_any}
use Rattle.std.proofs.lemmas.Bool.{and_parts, eqb-true, false≢true, not-true, or_parts}
use Rattle.pi_guard.specs.declared.GuardKind.{GuardKind}
use Rattle.fault_schedule.specs.Altered.{is_line_of, is_same, keep_of, keep_or, kept_bytes, moved_by, shift_of}
use Rattle.fault_schedule.specs.declared.Label.{Label}
use Rattle.fault_schedule.specs.declared.fault.Crossing.{Crossing}
use Rattle.fault_schedule.specs.declared.fault.Crossing.TheVariants.{AdapterToTarget, HostToAdapter, MediumToTarget, TargetToMedium}
use Rattle.fault_schedule.specs.declared.fault.FaultKind.{FaultKind}
use Rattle.fault_schedule.specs.declared.fault.FaultKind.TheVariants.{Flip, Shift, Keep, Fail}
use Rattle.fault_schedule.specs.declared.fault.FaultLine.{FaultLine}
use Rattle.stack_ops.specs.declared.op.Op.{Op}
use Rattle.stack_ops.specs.Ops.{is_overwrite}
use Rattle.volume_table.specs.Places.{volume_len}
use Rattle.block_path.specs.Acts.{State}
use Rattle.block_path.proofs.Cells.{AllBelow, below}
use Rattle.walk_laws.specs.FirstLayer.{keeps_part}
use Rattle.run_laws.specs.Passed.{LiesInImage, accounted, has_flip, is_flip, is_misdirected, steps_from, tears, AreClean, Block, NoneEscapes, Setting, Step, route}
use Rattle.run_laws.proofs.Layers.{checked}
use Rattle.run_laws.proofs.Reading.{checked_form, none_escapes}
use Rattle.run_premises.specs.Forms.{brings_tuples, is_good_line, is_known_kind, is_known_line, is_led_away, is_shown, is_shown_line, is_stored_altered, kind_at, label_of, mask_of, may_mend, may_undo, misdirects, op_of, virt_of}
use Rattle.run_premises.specs.FormedRun.{HasAccountedFaults, IsOfBytes}
use Rattle.run_premises.proofs.Accounts.{all_accounted, begins}
use Rattle.run_premises.proofs.Lines.{IsLineOf, line_of, pick}
use Rattle.run_premises.proofs.Named.{AllFitting, Brings, IsNamed, all_suit, kept_there, virt_is}
use Rattle.run_premises.proofs.Runs.{if_all, mends}

-- ---- no other shift

still : (kind : GuardKind) (size : ℕ) (all : List FaultLine) (ops : List Op) (f : FaultLine) (at : Crossing) (same : Bool) (rest : ℤ) (what : FaultKind) → is_known_kind kind size all ops f what ≡ true → (is_same f.at TargetToMedium ≡ true → is_same f.at at ≡ false) →
    unwrap_or (if is_same f.at at && same then moved_by what else None) rest ≡ rest
still kind size all ops f at same rest (Flip off bytes) h other = by (is_same f.at at && same) where
  by : (c : Bool) → unwrap_or (if c then moved_by (Flip off bytes) else None) rest ≡ rest
  by true = refl
  by false = refl
still kind size all ops f at same rest (Shift by) h other = ap (λ c. unwrap_or (if c && same then moved_by (Shift by) else None) rest) (other h)
still kind size all ops f at same rest (Keep bytes) h other = keep (is_same f.at at && same) where
  keep : (c : Bool) → unwrap_or (if c then moved_by (Keep bytes) else None) rest ≡ rest
  keep true = refl
  keep false = refl
still kind size all ops f at same rest Fail h other = fail (is_same f.at at && same) where
  fail : (c : Bool) → unwrap_or (if c then moved_by Fail else None) rest ≡ rest
  fail true = refl
  fail false = refl

pub shifts_no_other : (kind : GuardKind) (size : ℕ) (all : List FaultLine) (ops : List Op) (at : Crossing) → ((other : Crossing) → is_same other TargetToMedium ≡ true → is_same other at ≡ false) → (faults : List FaultLine) → list_all (is_known_line kind size all ops) faults ≡ true → (op : ℕ) → shift_of faults at op ≡ pos 0
shifts_no_other kind size all ops at far [] h op = refl
shifts_no_other kind size all ops at far (f ∷ faults) h op =
    let p = and_parts (is_known_line kind size all ops f) (list_all (is_known_line kind size all ops) faults) h in
    still kind size all ops f at (eqb f.op op) (shift_of faults at op) f.kind p.0 (far f.at) ∙ shifts_no_other kind size all ops at far faults p.1 op

pub not_on_wire : (other : Crossing) → is_same other TargetToMedium ≡ true → is_same other AdapterToTarget ≡ false
not_on_wire AdapterToTarget h = absurd (false≢true h)
not_on_wire TargetToMedium h = refl
not_on_wire HostToAdapter h = refl
not_on_wire MediumToTarget h = refl
not_on_wire _ h = refl

pub not_fetched : (other : Crossing) → is_same other TargetToMedium ≡ true → is_same other MediumToTarget ≡ false
not_fetched MediumToTarget h = absurd (false≢true h)
not_fetched TargetToMedium h = refl
not_fetched HostToAdapter h = refl
not_fetched AdapterToTarget h = refl
not_fetched _ h = refl

-- ---- no block is torn

untorn_by : (kind : GuardKind) (size : ℕ) (all : List FaultLine) (ops : List Op) (f : FaultLine) (c : Bool) (rest : Option ℕ) (what : FaultKind) → is_known_kind kind size all ops f what ≡ true → keeps_part rest ≡ false → keeps_part (keep_or (if c then kept_bytes what else None) rest) ≡ false
untorn_by kind size all ops f false rest what h k = k
untorn_by kind size all ops f true rest (Flip off bytes) h k = k
untorn_by kind size all ops f true rest (Shift by) h k = k
untorn_by kind size all ops f true rest (Keep bytes) h k = ap (λ n. keeps_part (Some n)) (eqb-true bytes 0 h)
untorn_by kind size all ops f true rest Fail h k = k

none_torn : (kind : GuardKind) (size : ℕ) (all : List FaultLine) (ops : List Op) (faults : List FaultLine) → list_all (is_known_line kind size all ops) faults ≡ true → (label : Label) → keeps_part (keep_of faults label) ≡ false
none_torn kind size all ops [] h label = refl
none_torn kind size all ops (f ∷ faults) h label =
    let p = and_parts (is_known_line kind size all ops f) (list_all (is_known_line kind size all ops) faults) h in
    untorn_by kind size all ops f (is_line_of f TargetToMedium label) (keep_of faults label) f.kind p.0 (none_torn kind size all ops faults p.1 label)

-- ---- no shift where no line misdirects

moves_none : (a b : Bool) (moves : Option ℤ) (rest : ℤ) → (a && (b && is_some moves)) ≡ false → unwrap_or (if a && b then moves else None) rest ≡ rest
moves_none false b moves rest h = refl
moves_none true false moves rest h = refl
moves_none true true None rest h = refl
moves_none true true (Some by) rest h = absurd (false≢true (sym h))

none_misdirects : (faults : List FaultLine) (op : ℕ) → list_any (misdirects op) faults ≡ false → shift_of faults TargetToMedium op ≡ pos 0
none_misdirects [] op h = refl
none_misdirects (f ∷ faults) op h =
    let p = or_parts (misdirects op f) (list_any (misdirects op) faults) h in
    moves_none (is_same f.at TargetToMedium) (eqb f.op op) (moved_by f.kind) (shift_of faults TargetToMedium op) p.0 ∙ none_misdirects faults op p.1

-- ---- a line that alters a block

flip_is_good : (kind : GuardKind) (size : ℕ) (all : List FaultLine) (ops : List Op) (f : FaultLine) (what : FaultKind) → is_flip what ≡ true → is_known_kind kind size all ops f what ≡ true → (is_good_line kind size all ops f && not (is_led_away all f)) ≡ true
flip_is_good kind size all ops f (Flip off bytes) q h = h
flip_is_good kind size all ops f (Shift by) q h = absurd (false≢true q)
flip_is_good kind size all ops f (Keep bytes) q h = absurd (false≢true q)
flip_is_good kind size all ops f Fail q h = absurd (false≢true q)

module _ (m' : Setting) (ops : List Op) (even : m'.size % 2 ≡ 0) (flips : All (λ (line : FaultLine). IsOfBytes line.kind) m'.site.faults)
    (form : list_all (is_known_line m'.mode.kind m'.size m'.site.faults ops) m'.site.faults ≡ true) where
  abbrev m : Setting
  m = checked m'

  abbrev n : ℕ
  n = m'.size

  abbrev kind : GuardKind
  kind = m'.mode.kind

  abbrev faults : List FaultLine
  faults = m'.site.faults

  record Line (b : Block) (at : Crossing) : Type 0 where
    line : FaultLine
    is : IsLineOf line at (route m b).label
    shown : is_shown n (kind_at kind at) (mask_of n faults at (route m b).label) ≡ true
    mends : may_mend ops line ≡ false
    undoes : may_undo ops faults line ≡ false
    straight : is_led_away faults line ≡ false

  the_line : (b : Block) (at : Crossing) → has_flip m b at ≡ true → Line b at
  the_line b at h =
      let c = pick (λ line. is_line_of line at (route m b).label && is_flip line.kind) (is_known_line kind n faults ops) faults h form in
      let l = line_of c.line at (route m b).label c.one in
      let g = and_parts (is_good_line kind n faults ops c.line) (not (is_led_away faults c.line)) (flip_is_good kind n faults ops c.line c.line.kind l.flips c.other) in
      let p = and_parts (is_shown_line kind n faults c.line) (not (may_mend ops c.line) && not (may_undo ops faults c.line)) g.0 in
      let q = and_parts (is_flip c.line.kind) (is_shown n (kind_at kind c.line.at) (mask_of n faults c.line.at (label_of c.line))) p.0 in
      let r = and_parts (not (may_mend ops c.line)) (not (may_undo ops faults c.line)) p.1 in
      record {
        line = c.line;
        is = l;
        shown = subst (λ at. is_shown n (kind_at kind at) (mask_of n faults at (route m b).label) ≡ true) l.crossing
            (subst (λ label. is_shown n (kind_at kind c.line.at) (mask_of n faults c.line.at label) ≡ true) l.labelled q.1);
        mends = not-true _ r.0;
        undoes = not-true _ r.1;
        straight = not-true _ g.1;
      }

  lines : (b : Block) (at : Crossing) → has_flip m b at ≡ true → is_shown n (kind_at kind at) (mask_of n faults at (route m b).label) ≡ true
  lines b at q = (the_line b at q).shown

  -- a block that is altered on its way to the medium isn't misdirected
  straight_is : (b : Block) → has_flip m b TargetToMedium ≡ true → is_misdirected m b ≡ false
  straight_is b q =
      let l = the_line b TargetToMedium q in
      let none = if_all (is_same l.line.at TargetToMedium) (list_any (misdirects l.line.op) faults) l.straight (ap (λ at. is_same at TargetToMedium) l.is.crossing) in
      ap (λ z. not (eqb (nat_abs z) 0)) (none_misdirects faults b.op (subst (λ (label : Label). list_any (misdirects label.op) faults ≡ false) l.is.labelled none))

  untorn : (b : Block) → tears m b ≡ false
  untorn b = none_torn kind n faults ops faults form (route m b).label

  -- a block that is altered on its way from the medium isn't on its way there
  whole_there : (b : Block) → IsNamed m' ops b → has_flip m b MediumToTarget ≡ true → is_stored_altered ops faults b.virt ≡ false
  whole_there b e q =
      let l = the_line b MediumToTarget q in
      let same : is_same l.line.at MediumToTarget ≡ true = ap (λ at. is_same at MediumToTarget) l.is.crossing in
      ap (is_stored_altered ops faults) (sym (virt_is m' ops b MediumToTarget l.line l.is e)) ∙ if_all (is_same l.line.at MediumToTarget) (is_stored_altered ops faults (virt_of ops l.line)) l.undoes same

  -- no line alters a block whose tuple an application brings on its way to the adapter
  not_mended : (b : Block) → Brings m' ops b → has_flip m b HostToAdapter ≡ true → ⊥
  not_mended b t q =
      let l = the_line b HostToAdapter q in
      mends (is_same l.line.at HostToAdapter) (brings_tuples (op_of ops l.line.op)) l.mends (ap (λ at. is_same at HostToAdapter) l.is.crossing) (ap (λ label. brings_tuples (op_of ops label.op)) l.is.labelled ∙ t)

  steps_accounted : (image : List (List ℕ)) → LiesInImage m (volume_len m'.entries) image → (steps : List Step) (s : State) → AllFitting m' ops steps → NoneEscapes m steps s → s.blocks ≡ image → AllBelow 256 s.bytes → AreClean m s.blocks → accounted m steps s ≡ true
  steps_accounted image lies steps s fit e same pages clean =
      let wire = shifts_no_other kind n faults ops AdapterToTarget not_on_wire faults form in
      let fetched = shifts_no_other kind n faults ops MediumToTarget not_fetched faults form in
      all_accounted m' even flips lines wire fetched untorn straight_is image lies (IsNamed m' ops) (Brings m' ops) (is_stored_altered ops faults) (kept_there m' ops) whole_there not_mended steps s fit e
      (begins m' even flips lines wire fetched untorn straight_is image lies (IsNamed m' ops) (Brings m' ops) (is_stored_altered ops faults) (kept_there m' ops) whole_there not_mended s same pages clean)

known : (m' : Setting) (ops : List Op) (opening : State) → HasAccountedFaults (checked m') ops opening → accounted (checked m') (steps_from (checked m') 1 ops) opening ≡ true
known m' ops opening run =
    let form = (and_parts (list_all (is_known_line m'.mode.kind m'.size m'.site.faults ops) m'.site.faults) (not (list_any is_overwrite ops)) run.form).0 in
    steps_accounted m' ops run.even run.flips form opening.blocks run.lies (steps_from (checked m') 1 ops) opening
    (all_suit m' ops run.fit) (none_escapes (checked m') 1 ops opening run.no_escape) refl (below 256 opening.bytes run.pages) run.clean

pub known_by_form : (m : Setting) (ops : List Op) (opening : State) → HasAccountedFaults m ops opening → accounted m (steps_from m 1 ops) opening ≡ true
known_by_form m ops opening run =
    let e = checked_form m run.checked in
    subst (λ x. accounted x (steps_from x 1 ops) opening ≡ true) (sym e) (known m ops opening (subst (λ x. HasAccountedFaults x ops opening) e run))
