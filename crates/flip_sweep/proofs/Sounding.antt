-- A script with a flip as its one fault keeps the rules of its language.
use Rattle.std.proofs.Common.{◌≡◌, ◌⊎◌, inl, inr, ℕ, ◌+◌, ◌<◌, ◌≤◌, Bool, true, false, eqb, List, [], ◌∷◌, length, Option, None, refl, ap, arith}
use Rattle.std.specs.Prelude.{◌&&◌, nat_lt}
use Rattle.std.specs.List.{list_any}
use Rattle.std.proofs.lemmas.Bool.{le-ltb, ne_eqb, or_from}
use Rattle.fault_schedule.specs.declared.fault.FaultKind.TheVariants.{Flip}
use Rattle.fault_schedule.specs.declared.fault.FaultLine.{FaultLine}
use Rattle.script_laws.specs.Keeping.{IsFault, IsFlip}
use Rattle.script_laws.proofs.Words.{bytes_one}
use Rattle.script_lines.specs.declared.line.Spot.{Spot}
use Rattle.script_lines.specs.declared.line.Spot.TheVariants.{Host, Wire, Medium}
use Rattle.script_text.specs.Bindings.{is_third_line}
use Rattle.script_text.specs.Crossings.{crossing_of, is_read, spot_of}
use Rattle.script_text.specs.Rules.{is_bad_flip}
use Rattle.script_text.specs.declared.fault.ScriptFault.{ScriptFault}
use Rattle.script_text.specs.declared.script.Script.{Script}
use Rattle.run_command.specs.Working.{IsSound}
use Rattle.stack_ops.specs.declared.op.Op.{Op}
use Rattle.flip_sweep.specs.Flips.{IsSite, fault_before, flip_at, overwrite_fault, own_fault, with_flip}
use Rattle.flip_sweep.specs.declared.flips.Site.{Site}

-- a crossing lies where it is said to lie
lies_there : (spot : Spot) (off : ℕ) (bytes : List ℕ) (r : Bool) → crossing_of (spot_of (crossing_of spot (Flip off bytes) r)) (Flip off bytes) r ≡ crossing_of spot (Flip off bytes) r
lies_there Host off bytes true = refl
lies_there Wire off bytes true = refl
lies_there Medium off bytes true = refl
lies_there Host off bytes false = refl
lies_there Wire off bytes false = refl
lies_there Medium off bytes false = refl

good_flip : (size off byte : ℕ) → off < size + 8 → 1 ≤ byte → is_bad_flip size off (byte ∷ []) ≡ false
good_flip size off byte o b = or_from (nat_lt (size + 8) (off + 1)) (eqb byte 0 && true) (le-ltb (size + 8) (off + 1) (omega (arith, o))) (ap (λ x. x && true) (ne_eqb byte 0 (λ e. omega (arith, b, e))))

is_flip : (size off byte : ℕ) → off < size + 8 → 1 ≤ byte → byte < 256 → IsFlip size off (byte ∷ [])
is_flip size off byte o b h = record { off_fits = omega (arith, o); are_bytes = bytes_one byte h; count = omega arith; good = good_flip size off byte o b }

is_fault : (third : Bool) (size : ℕ) (ops : List Op) (at : Site) (off byte : ℕ) → IsSite at → off < size + 8 → 1 ≤ byte → byte < 256 → IsFault third size ops (flip_at ops at off byte)
is_fault third size ops at off byte s o b h = record {
  op_is = record { low_is = s.op_low; high_is = s.op_high };
  k_is = s.block;
  crossing = lies_there at.spot off (byte ∷ []) (is_read ops at.op);
  kind_is = is_flip size off byte o b h;
}

none_before : (faults : List FaultLine) (lines : List ℕ) (rest : Option ScriptFault) → fault_before faults lines rest ≡ None → length faults ≤ length lines → faults ≡ []
none_before [] lines rest e l = refl
none_before (f ∷ faults) [] rest e l = absurd (omega (arith, l))
none_before (f ∷ faults) (n ∷ lines) rest e l = absurd (cc)

-- a script that has no fault of its own schedules none
pub no_faults : (s : Script) → IsSound s → own_fault s ≡ None → s.faults ≡ []
no_faults s sound e = none_before s.faults s.lines (overwrite_fault s.ops s.lines) e (let l = sound.lines in omega arith)

pub still_sound : (s : Script) (at : Site) (off byte : ℕ) → IsSound s → own_fault s ≡ None → IsSite at → off < s.block + 8 → 1 ≤ byte → byte < 256 → IsSound (with_flip s at off byte)
still_sound s at off byte sound own h o b e =
    let k = sound.keeps in
    record {
      keeps = record {
        mode_is = k.mode_is;
        limits_are = k.limits_are;
        pages_are = k.pages_are;
        block_is = k.block_is;
        entries_are = k.entries_are;
        entries_count = k.entries_count;
        faults_are = (is_fault (list_any is_third_line (flip_at s.ops at off byte ∷ [])) s.block s.ops at off byte h o b e, tt);
        faults_count = omega arith;
        choices_are = k.choices_are;
        choices_count = k.choices_count;
        ops_are = k.ops_are;
        ops_count = k.ops_count;
        blocks_count = k.blocks_count;
      };
      lines = let l = sound.lines in let n = ap length (no_faults s sound own) in omega arith;
    }

small_block : (n : ℕ) → (n ≡ 512) ⊎ (n ≡ 4096) → n ≤ 4096
small_block n (inl e) = omega (arith, e)
small_block n (inr e) = omega (arith, e)

pub block_few : (s : Script) → IsSound s → s.block ≤ 4096
block_few s sound = small_block s.block sound.keeps.block_is
