-- What the legs of a mirror ask of its script, of a script that has no fault on it.
use Rattle.std.proofs.Common.{◌≡◌, ◌≤◌, ℕ, ◌+◌, Bool, true, false, not, eqb, ◌&&◌, ◌||◌, if◌then◌else◌, List, [], ◌∷◌, ◌++◌, length, drop, Some, None, refl, arith}
use Rattle.std.specs.Prelude.{◌/◌, ◌%◌}
use Rattle.std.proofs.lemmas.Bool.{and_parts, eqb-true, or_parts}
use Rattle.fault_schedule.specs.declared.fault.FaultKind.{FaultKind}
use Rattle.fault_schedule.specs.declared.fault.FaultKind.TheVariants.{Flip, Shift, Keep, Fail}
use Rattle.fault_schedule.specs.declared.fault.FaultLine.{FaultLine}
use Rattle.stack_ops.specs.declared.op.Op.{Op}
use Rattle.volume_table.specs.Places.{volume_len}
use Rattle.volume_table.specs.Tables.{Table}
use Rattle.volume_table.specs.declared.device.DeviceInfo.{DeviceInfo}
use Rattle.script_text.specs.Bindings.{is_shift, or_else, request_at}
use Rattle.rig_api.specs.Frames.{stored_size}
use Rattle.script_text.specs.declared.fault.ScriptFault.{ScriptFault}
use Rattle.script_text.specs.declared.script.Script.{Script}
use Rattle.script_stack.specs.Passed.{Each, Keeps}
use Rattle.script_stack.proofs.Passed.{if-none, or-none}
use Rattle.mirror_script.specs.MirrorFaults.{faults_fault, is_bad_kind, is_bad_line, is_past, length_fault, mirror_fault, mode_fault, names_blocks, ops_fault}
use Rattle.mirror_volume.specs.MirrorScript.{AllFit, IsMirrorScript, is_unfit, without_faults}

pub none_when : (c : Bool) (fault : ScriptFault) → (if c then None else Some fault) ≡ None → c ≡ true
none_when true fault h = refl
none_when false fault h = absurd (cc)

fit_kind : (stored : ℕ) (earlier : List FaultLine) (f : FaultLine) (kind : FaultKind) → is_bad_kind stored earlier f kind ≡ false → (is_shift kind ≡ false) × (is_unfit stored earlier f kind ≡ false)
fit_kind stored earlier f (Flip off bytes) h = (refl, refl)
fit_kind stored earlier f (Shift by) h = absurd (cc)
fit_kind stored earlier f (Keep bytes) h = (refl, h)
fit_kind stored earlier f Fail h = (refl, h)

all_fit : (protect stored : ℕ) (ops : List Op) (earlier faults : List FaultLine) (lines : List ℕ) → length faults ≤ length lines → faults_fault protect stored ops earlier faults lines ≡ None →
    Each (λ f. is_shift f.kind ≡ false) faults × AllFit stored earlier faults
all_fit protect stored ops earlier [] lines l h = (tt, tt)
all_fit protect stored ops earlier (f ∷ faults) [] l h = absurd (omega arith)
all_fit protect stored ops earlier (f ∷ faults) (line ∷ lines) l h =
    let n = if-none (is_bad_line protect stored ops earlier f) _ (faults_fault protect stored ops (earlier ++ (f ∷ [])) faults lines) h in
    let a = or_parts (not (eqb protect 1)) (is_past f.k (request_at ops f.op) || is_bad_kind stored earlier f f.kind) n.0 in
    let b = fit_kind stored earlier f f.kind (or_parts (is_past f.k (request_at ops f.op)) (is_bad_kind stored earlier f f.kind) a.1).1 in
    let rest = all_fit protect stored ops (earlier ++ (f ∷ [])) faults lines (omega arith) n.1 in
    ((b.0, rest.0), (b.1, rest.1))

pub asked : (s : Script) (t : Table) (devices : List DeviceInfo) → Keeps s → length s.lines ≡ length s.faults + length s.ops → mirror_fault s t devices ≡ None → IsMirrorScript s t (volume_len t.entries / 2)
asked s t devices k l h =
    let ops = ops_fault s.mode.protect t devices s.block s.ops (drop (length s.faults) s.lines) in
    let faults = faults_fault s.mode.protect (stored_size t.ty s.block) s.ops [] s.faults s.lines in
    let a = or-none (mode_fault s.mode t.ty) (or_else (length_fault (volume_len t.entries)) (or_else faults ops)) h in
    let b = or-none (length_fault (volume_len t.entries)) (or_else faults ops) a.1 in
    let c = or-none faults ops b.1 in
    let d = and_parts s.mode.dix (s.mode.dif && names_blocks t.ty) (none_when (s.mode.dix && (s.mode.dif && names_blocks t.ty)) _ a.0) in
    let e = and_parts s.mode.dif (names_blocks t.ty) d.1 in
    let fit = all_fit s.mode.protect (stored_size t.ty s.block) s.ops [] s.faults s.lines (omega arith) c.0 in
    let even = eqb-true (volume_len t.entries % 2) 0 (none_when (eqb (volume_len t.entries % 2) 0) _ b.0) in
    record {
      protect_is = k.mode_is.protect_is;
      dix = d.0;
      most = k.limits_are.blocks;
      block_is = k.block_is;
      type_is = e.1;
      long = omega (arith, even);
      flips = fit.0;
      keeps = fit.1;
    }

pub still_asked : (s : Script) (t : Table) (half : ℕ) → IsMirrorScript s t half → IsMirrorScript (without_faults s) t half
still_asked s t half is = record { protect_is = is.protect_is; dix = is.dix; most = is.most; block_is = is.block_is; type_is = is.type_is; long = is.long; flips = tt; keeps = tt }
