-- A bound script whose faults have the form: all that the law of its run asks.
use Rattle.std.proofs.Common.{◌≡◌, ◌<◌, ℕ, ◌*◌, Bool, true, not, List, [], ◌∷◌, refl, ap, arith, map, false}
use Rattle.std.specs.Prelude.{All}
use Rattle.std.specs.List.{list_all, list_any}
use Rattle.std.proofs.lemmas.Bool.{and_parts, not-true}
use Rattle.std.proofs.lemmas.List.Elements.{All-cons, All-nil, All-replicate}
use Rattle.fault_schedule.specs.declared.fault.Crossing.TheVariants.{AdapterToTarget, MediumToTarget}
use Rattle.fault_schedule.specs.declared.fault.FaultKind.{FaultKind}
use Rattle.fault_schedule.specs.declared.fault.FaultKind.TheVariants.{Flip, Shift, Keep, Fail}
use Rattle.fault_schedule.specs.declared.fault.FaultLine.{FaultLine}
use Rattle.rig_api.specs.Target.{Stored}
use Rattle.volume_table.specs.Tables.{Table}
use Rattle.script_stack.specs.Passed.{Each, IsFault, IsKind, is_third_line, Script, blocks_told, shapes_of, info_of}
use Rattle.pi_tuple.specs.Finds.{is_zero}
use Rattle.volume_table.specs.declared.device.DeviceInfo.{DeviceInfo}
use Rattle.run_premises.specs.Passed.{AreCleanWhereRead, DevicesAreClean, HasCells, IsShownRun, LiesOn, State, accounted, detectable, steps_from, Setting, IsCalmRun, script_walk, AreClean, NoEscape, address_of, Op, is_overwrite}
use Rattle.script_stack.proofs.Passed.{all-fit, calm-run, lies-in, are-bytes, shown-run, lies-on, has-cells, IsBoundOver, at_first, over}
use Rattle.run_premises.specs.Forms.{is_good_line, is_known_line, supplies_none}
use Rattle.run_premises.proofs.Known.{not_fetched, not_on_wire, shifts_no_other}
use Rattle.run_premises.proofs.Lines.{no_shift}
use Rattle.run_premises.proofs.Passed.{on_clean_volume, on_read_volume}
use Rattle.run_premises.specs.FormedRun.{HasAccountedFaults, HasFormedFaults, IsOfBytes}
use Rattle.script_form_laws.specs.FormedScript.{IsAccountedScript, IsFormedOver, IsFormedScript, IsStillScript}
use Rattle.small_laws.proofs.Numbers.{even_size as even}

kind-bytes : (size : ℕ) (f : FaultLine) (kind : FaultKind) → IsKind size f kind → IsOfBytes kind
kind-bytes size f (Flip off bytes) h = are-bytes bytes h.are_bytes
kind-bytes size f (Shift by) h = tt
kind-bytes size f (Keep bytes) h = tt
kind-bytes size f Fail h = tt

bytes-in : (third : Bool) (size : ℕ) (ops : List Op) (faults : List FaultLine) → Each (IsFault third size ops) faults → All (λ (line : FaultLine). IsOfBytes line.kind) faults
bytes-in third size ops [] h = All-nil (λ (line : FaultLine). IsOfBytes line.kind)
bytes-in third size ops (f ∷ faults) h = All-cons (λ (line : FaultLine). IsOfBytes line.kind) f faults (kind-bytes size f f.kind h.0.kind_is) (bytes-in third size ops faults h.1)

pub lines-bytes : (size : ℕ) (ops : List Op) (faults : List FaultLine) → Each (IsFault (list_any is_third_line faults) size ops) faults → All (λ (line : FaultLine). IsOfBytes line.kind) faults
lines-bytes size ops faults h = bytes-in (list_any is_third_line faults) size ops faults h

-- the law of a run
abbrev pub FormLaw : Type 0
FormLaw = (m : Setting) (ops : List Op) (opening : State) → HasFormedFaults m ops opening → detectable m (steps_from m 1 ops) opening ≡ true

-- and that of escapes
abbrev pub EscapeLaw : Type 0
EscapeLaw = (m : Setting) (ops : List Op) (opening : State) → list_all supplies_none ops ≡ true → NoEscape m 1 ops opening

bound-over : (s : Script) (t : Table) (us : List Stored) → IsFormedOver s t us → IsBoundOver s t us
bound-over s t us b = record { keeps = b.keeps; lines = b.lines; made = b.made; bound = b.bound; stored = b.stored }

pub formed-run : (s : Script) (t : Table) (us : List Stored) → IsFormedOver s t us → IsFormedScript s t us → HasFormedFaults (over s t (shapes_of us)) s.ops (at_first s us)
formed-run s t us b p =
    let o = bound-over s t us b in
    let form = and_parts (list_all (is_good_line s.mode.kind s.block s.faults s.ops) s.faults) (not (list_any is_overwrite s.ops)) p.form in
    record {
      checked = record { ty = p.ty; dix = p.dix; dif = p.dif; protect = p.protect; device = refl };
      even = even s.block b.keeps.block_is;
      flips = lines-bytes s.block s.ops s.faults b.keeps.faults_are;
      pages = All-replicate (λ x. x < 256) (4096 * s.pages) 0 (omega arith);
      lies = lies-in s t us o p.bytes;
      clean = p.clean;
      fit = all-fit s t us o (not-true _ form.1);
      no_escape = p.no_escape;
      form = p.form;
    }

pub formed : (s : Script) (t : Table) (us : List Stored) → FormLaw → IsFormedOver s t us → IsFormedScript s t us → detectable (over s t (shapes_of us)) (steps_from (over s t (shapes_of us)) 1 s.ops) (at_first s us) ≡ true
formed s t us law b p = law (over s t (shapes_of us)) s.ops (at_first s us) (formed-run s t us b p)

pub escapes : (s : Script) (t : Table) (us : List Stored) → EscapeLaw → list_all supplies_none s.ops ≡ true → NoEscape (over s t (shapes_of us)) 1 s.ops (at_first s us)
escapes s t us none h = none (over s t (shapes_of us)) s.ops (at_first s us) h

-- ---- the form admits no shift, so reads come to the volume's own blocks

pub read-clean : (s : Script) (t : Table) (us : List Stored) → IsFormedScript s t us → AreCleanWhereRead (over s t (shapes_of us)) (map info_of (shapes_of us)) (blocks_told us)
read-clean s t us p =
    let form = and_parts (list_all (is_good_line s.mode.kind s.block s.faults s.ops) s.faults) (not (list_any is_overwrite s.ops)) p.form in
    on_clean_volume (over s t (shapes_of us)) (map info_of (shapes_of us)) (blocks_told us) (ap is_zero p.ty) (no_shift s.mode.kind s.block s.faults s.ops s.faults form.0) p.clean

pub shown : (s : Script) (t : Table) (us : List Stored) → FormLaw → IsFormedOver s t us → IsFormedScript s t us → IsShownRun (over s t (shapes_of us)) (map info_of (shapes_of us)) s.ops (at_first s us)
shown s t us law b p = shown-run s t us (bound-over s t us b) p.ty p.dix p.dif p.protect (read-clean s t us p) p.no_escape (formed s t us law b p)

-- ---- the form that admits blocks which the disk fails, loses and misdirects admits no shift of what is read

abbrev pub AccountLaw : Type 0
AccountLaw = (m : Setting) (ops : List Op) (opening : State) → HasAccountedFaults m ops opening → accounted m (steps_from m 1 ops) opening ≡ true

pub accounted-by-form : (s : Script) (t : Table) (us : List Stored) → AccountLaw → IsFormedOver s t us → IsAccountedScript s t us → accounted (over s t (shapes_of us)) (steps_from (over s t (shapes_of us)) 1 s.ops) (at_first s us) ≡ true
accounted-by-form s t us law b p =
    let o = bound-over s t us b in
    let form = and_parts (list_all (is_known_line s.mode.kind s.block s.faults s.ops) s.faults) (not (list_any is_overwrite s.ops)) p.form in
    law (over s t (shapes_of us)) s.ops (at_first s us)
    (record {
      checked = record { ty = p.ty; dix = p.dix; dif = p.dif; protect = p.protect; device = refl };
      even = even s.block b.keeps.block_is;
      flips = lines-bytes s.block s.ops s.faults b.keeps.faults_are;
      pages = All-replicate (λ x. x < 256) (4096 * s.pages) 0 (omega arith);
      lies = lies-in s t us o p.bytes;
      clean = p.clean;
      fit = all-fit s t us o (not-true _ form.1);
      no_escape = p.no_escape;
      form = p.form;
    })

pub accounted-clean : (s : Script) (t : Table) (us : List Stored) → IsAccountedScript s t us → AreCleanWhereRead (over s t (shapes_of us)) (map info_of (shapes_of us)) (blocks_told us)
accounted-clean s t us p =
    let form = and_parts (list_all (is_known_line s.mode.kind s.block s.faults s.ops) s.faults) (not (list_any is_overwrite s.ops)) p.form in
    on_read_volume (over s t (shapes_of us)) (map info_of (shapes_of us)) (blocks_told us) (ap is_zero p.ty)
    (shifts_no_other s.mode.kind s.block s.faults s.ops AdapterToTarget not_on_wire s.faults form.0) (shifts_no_other s.mode.kind s.block s.faults s.ops MediumToTarget not_fetched s.faults form.0) p.clean

-- ---- a run without faults leaves clean devices clean

abbrev pub LeavesLaw : Type 0
LeavesLaw = (m : Setting) (devices : List DeviceInfo) (ops : List Op) (opening : State) → is_zero m.ty ≡ false → IsCalmRun m ops opening → LiesOn m devices → HasCells m devices opening.blocks → DevicesAreClean m devices opening.blocks
    → DevicesAreClean m devices (script_walk m ops opening).blocks

pub stays-clean : (s : Script) (t : Table) (us : List Stored) → LeavesLaw → IsFormedOver s t us → IsStillScript s t us → DevicesAreClean (over s t (shapes_of us)) (map info_of (shapes_of us)) (blocks_told us)
    → DevicesAreClean (over s t (shapes_of us)) (map info_of (shapes_of us)) (script_walk (over s t (shapes_of us)) s.ops (at_first s us)).blocks
stays-clean s t us law b p clean =
    let o = bound-over s t us b in
    let m = over s t (shapes_of us) in
    let volume : AreClean m (blocks_told us) = λ v l z. clean v (address_of m v) l (o.made.inside v l) in
    law m (map info_of (shapes_of us)) s.ops (at_first s us) p.tuples
    (calm-run s t us o p.faults (p.overwrites) p.bytes volume p.no_escape)
    (lies-on s t us o) (has-cells s t us o) clean
