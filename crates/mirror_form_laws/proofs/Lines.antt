-- Lines that are flips, or say that the medium fails a block, shift nothing and let no block be stored in part.
use Rattle.std.proofs.Common.{◌≡◌, ℕ, Bool, true, false, ◌&&◌, ◌||◌, not, List, [], ◌∷◌, Option, None, refl, ◌∙◌, if◌then◌else◌}
use Rattle.std.specs.Prelude.{ℤ, pos, eqb, unwrap_or}
use Rattle.std.specs.List.{list_all}
use Rattle.std.proofs.lemmas.Bool.{and_from, and_parts, false≢true}
use Rattle.pi_guard.specs.declared.GuardKind.{GuardKind}
use Rattle.fault_schedule.specs.Altered.{is_fail, is_line_of, is_same, keep_of, keep_or, kept_bytes, moved_by, shift_of}
use Rattle.fault_schedule.specs.declared.Label.{Label}
use Rattle.fault_schedule.specs.declared.fault.Crossing.{Crossing}
use Rattle.fault_schedule.specs.declared.fault.Crossing.TheVariants.{TargetToMedium}
use Rattle.fault_schedule.specs.declared.fault.FaultKind.{FaultKind}
use Rattle.fault_schedule.specs.declared.fault.FaultKind.TheVariants.{Flip, Shift, Keep, Fail}
use Rattle.fault_schedule.specs.declared.fault.FaultLine.{FaultLine}
use Rattle.stack_ops.specs.declared.op.Op.{Op}
use Rattle.walk_laws.specs.FirstLayer.{is_flip}
use Rattle.run_premises.specs.Forms.{is_shown_line}
use Rattle.mirror_form_laws.specs.Forms.{is_good_on_legs, may_undo_on_legs}

-- a flip, or a failure of the medium
abbrev pub is_either : FaultLine → Bool
is_either line = is_fail line.kind || is_flip line.kind

either_so : (kind : FaultKind) (a b : Bool) → (is_fail kind || ((is_flip kind && a) && b)) ≡ true → (is_fail kind || is_flip kind) ≡ true
either_so (Flip off bytes) a b h = refl
either_so (Shift by) a b h = h
either_so (Keep bytes) a b h = h
either_so Fail a b h = refl

pub all_either : (kind : GuardKind) (size half : ℕ) (faults : List FaultLine) (ops : List Op) (lines : List FaultLine) → list_all (is_good_on_legs kind size half faults ops) lines ≡ true → list_all is_either lines ≡ true
all_either kind size half faults ops [] h = refl
all_either kind size half faults ops (line ∷ lines) h =
    let p = and_parts (is_good_on_legs kind size half faults ops line) (list_all (is_good_on_legs kind size half faults ops) lines) h in
    and_from (is_either line) (list_all is_either lines) (either_so line.kind _ _ p.0) (all_either kind size half faults ops lines p.1)

-- a good line that is a flip is shown, and undoes no other
flip_so : (kind : FaultKind) (good : Bool) → is_flip kind ≡ true → (is_fail kind || good) ≡ true → good ≡ true
flip_so (Flip off bytes) good q h = h
flip_so (Shift by) good q h = absurd (false≢true q)
flip_so (Keep bytes) good q h = absurd (false≢true q)
flip_so Fail good q h = absurd (false≢true q)

pub flip_is_good : (kind : GuardKind) (size half : ℕ) (faults : List FaultLine) (ops : List Op) (line : FaultLine) → is_flip line.kind ≡ true → is_good_on_legs kind size half faults ops line ≡ true →
    (is_shown_line kind size faults line && not (may_undo_on_legs half ops faults line)) ≡ true
flip_is_good kind size half faults ops line q h = flip_so line.kind (is_shown_line kind size faults line && not (may_undo_on_legs half ops faults line)) q h

-- ---- no shift

moves_none : (c : Bool) (kind : FaultKind) (rest : ℤ) → (is_fail kind || is_flip kind) ≡ true → unwrap_or (if c then moved_by kind else None) rest ≡ rest
moves_none false kind rest h = refl
moves_none true (Flip off bytes) rest h = refl
moves_none true (Shift by) rest h = absurd (false≢true h)
moves_none true (Keep bytes) rest h = absurd (false≢true h)
moves_none true Fail rest h = refl

pub shifts_none : (lines : List FaultLine) → list_all is_either lines ≡ true → (at : Crossing) (op : ℕ) → shift_of lines at op ≡ pos 0
shifts_none [] h at op = refl
shifts_none (line ∷ lines) h at op =
    let p = and_parts (is_either line) (list_all is_either lines) h in
    moves_none (is_same line.at at && eqb line.op op) line.kind (shift_of lines at op) p.0 ∙ shifts_none lines p.1 at op

-- ---- no block that is stored in part

keeps_all : (c : Bool) (kind : FaultKind) (rest : Option ℕ) → (is_fail kind || is_flip kind) ≡ true → keep_or (if c then kept_bytes kind else None) rest ≡ rest
keeps_all false kind rest h = refl
keeps_all true (Flip off bytes) rest h = refl
keeps_all true (Shift by) rest h = absurd (false≢true h)
keeps_all true (Keep bytes) rest h = absurd (false≢true h)
keeps_all true Fail rest h = refl

pub keeps_none_of : (lines : List FaultLine) → list_all is_either lines ≡ true → (label : Label) → keep_of lines label ≡ None
keeps_none_of [] h label = refl
keeps_none_of (line ∷ lines) h label =
    let p = and_parts (is_either line) (list_all is_either lines) h in
    keeps_all (is_line_of line TargetToMedium label) line.kind (keep_of lines label) p.0 ∙ keeps_none_of lines p.1 label
