-- A block of a mirror of which nothing alters a leg and no request names it there, along the ops and over the repair.
use Rattle.std.proofs.Common.{◌≡◌, ◌≤◌, ℕ, zero, suc, ◌+◌, Bool, false, not, List, ◌++◌, length, replicate, Some, refl, sym, ap, subst, ◌∙◌, arith}
use Rattle.std.proofs.lemmas.List.{get_or-replicate, length-replicate}
use Rattle.dix_adapter.specs.Ways.{blocks_told, shapes_of}
use Rattle.rig_api.specs.State.{RigState}
use Rattle.rig_api.specs.Target.{Stored}
use Rattle.volume_table.specs.declared.device.DeviceInfo.{DeviceInfo}
use Rattle.walk_laws.specs.Past.{Brought, brought_by}
use Rattle.script_text.specs.declared.script.Script.{Script}
use Rattle.run_command.proofs.Passed.{one_left}
use Rattle.mirror_laws.specs.Mirror.{fresh, marks_of}
use Rattle.mirror_laws.specs.declared.marks.Marks.{Marks}
use Rattle.mirror_volume.specs.declared.mirror.Mirror.{Mirror}
use Rattle.mirror_volume.specs.Premises.{HoldsBytes}
use Rattle.mirror_volume.specs.Passed.{IsMirrorOver, LegRun, half_of, stretches_in}
use Rattle.mirror_volume.specs.Spared.{HoldsOn, IsUnaltered, fails_on_leg, place_on, stored_on}
use Rattle.mirror_volume.proofs.SparedGround.{HasLeg, begins}
use Rattle.mirror_volume.proofs.SparedNames.{fails-first, fails-last}
use Rattle.mirror_volume.proofs.SparedOps.{kept-op}
use Rattle.mirror_volume.proofs.SparedRepair.{Good, good-holds, repair-keeps}
use Rattle.mirror_command.specs.Spared.{AllOverwritesShown, AllReadRight, KeepsBlock, last_written}
use Rattle.mirror_command.specs.Stages.{Finished, Stage, Stood}

module _ (s : Script) (devices : List DeviceInfo) (us : List Stored) (over : IsMirrorOver s devices us) (octets : HoldsBytes us) (u : ℕ) (leg : Bool) (p : IsUnaltered s devices us u leg)
    (begun : Stage) (told : begun.outside.units ≡ Some us) (all_fresh : begun.sides.marks ≡ replicate (half_of s devices) fresh) where
  -- what it has when the script begins
  abbrev first : Brought
  first = brought_by s.block (stored_on s devices us us leg u)

  -- After k ops a fresh leg has what it was last written with, and so its good leg; and each read of it was right.
  record Along (k : ℕ) (now : Stage) (stood : Stood s devices begun k now) : Type 0 where
    units : List Stored
    known : now.outside.units ≡ Some units
    shapes : shapes_of units ≡ shapes_of us
    counted : length now.sides.marks ≡ half_of s devices
    has : HasLeg s devices us u leg k (last_written s devices begun k now stood u first) (blocks_told units) (marks_of now.sides.marks u)
    reads : AllReadRight s devices begun k now stood u first

  begin : Along 0 begun refl
  begin =
      let its : marks_of begun.sides.marks u ≡ fresh = ap (λ (ms : List Marks). marks_of ms u) all_fresh ∙ get_or-replicate (half_of s devices) u fresh fresh p.inside in
      record {
        units = us;
        known = told;
        shapes = refl;
        counted = ap length all_fresh ∙ length-replicate (half_of s devices) fresh;
        has = subst (λ (k : Marks). HasLeg s devices us u leg 0 first (blocks_told us) k) (sym its) (begins s devices us over u leg p octets);
        reads = tt;
      }

  along-none : (now : Stage) (stood : now ≡ begun) → Along 0 now stood
  unfolding begin
  along-none now stood = record {
    units = begin.units;
    known = ap (λ (x : Stage). x.outside.units) stood ∙ begin.known;
    shapes = begin.shapes;
    counted = ap (λ (x : Stage). length x.sides.marks) stood ∙ begin.counted;
    has = subst (λ (x : Stage). HasLeg s devices us u leg 0 first (blocks_told us) (marks_of x.sides.marks u)) (sym stood) begin.has;
    reads = tt;
  }

  along : (k : ℕ) (now : Stage) (stood : Stood s devices begun k now) → k ≤ length s.ops → AllOverwritesShown s devices begun k now stood us (not leg) u first → fails_on_leg (place_on s devices leg u) now.runs ≡ false → Along k now stood
  along zero now stood l shows fine = along-none now stood
  along (suc k) now stood l shows fine =
      let old = stood.0 in
      let op = stood.1.1 in
      let none = subst (λ (rs : List LegRun). fails_on_leg (place_on s devices leg u) rs ≡ false) op.runs_are fine in
      let before = along k old stood.1.0 (omega (arith, l)) shows.0 (fails-first (place_on s devices leg u) old.runs op.runs none) in
      let next = kept-op s devices us over u leg p before.units before.shapes old.sides before.counted (last_written s devices begun k old stood.1.0 u first) k before.has (omega (arith, l)) now.sides op.runs op.reply
      old.outside now.outside before.known op.by op.ran op.tells shows.1 (fails-last (place_on s devices leg u) old.runs op.runs none) in
      let up : k + 1 ≡ suc k = omega arith in
      record {
        units = next.left;
        known = next.units;
        shapes = next.kept.shapes;
        counted = next.kept.counted;
        has = subst (λ (n : ℕ). HasLeg s devices us u leg n (last_written s devices begun (suc k) now stood u first) (blocks_told next.left) (marks_of now.sides.marks u)) up next.kept.has;
        reads = (before.reads, next.kept.reads);
      }

  good-leg : (k : ℕ) (now : Stage) (stood : Stood s devices begun k now) (a : Along k now stood) → Good s devices us over u leg p (last_written s devices begun k now stood u first) a.units now.sides.marks
  good-leg k now stood a = record {
    shapes = a.shapes;
    counted = a.counted;
    good = a.has.good;
    sound = a.has.sound;
  }

  -- all ops, and then the repair
  pub kept-block : (r : Mirror) (repaired lost : ℕ) (after : RigState) (ended : Finished s devices begun r repaired lost after) (left : List Stored) → after.units ≡ Some left
      → AllOverwritesShown s devices begun (length s.ops) ended.stage ended.served.stood us (not leg) u first → fails_on_leg (place_on s devices leg u) (ended.stage.runs ++ ended.runs) ≡ false
      → KeepsBlock s devices begun (length s.ops) ended.stage ended.served.stood us left u leg
  kept-block r repaired lost after ended left tells shows fine =
      let v = place_on s devices leg u in
      let stage = ended.stage in
      let a = along (length s.ops) stage ended.served.stood (omega arith) shows (fails-first v stage.runs ended.runs fine) in
      let x = ended.ran.fallen a.units a.known in
      let e = last_written s devices begun (length s.ops) stage ended.served.stood u first in
      let g = repair-keeps s devices us over u leg p e 0 (stretches_in (half_of s devices)) a.units x.0 _ _ ended.runs (omega arith) (good-leg (length s.ops) stage ended.served.stood a) ended.mended x.1.1 (fails-last v stage.runs ended.runs fine) in
      record {
        reads = a.reads;
        holds = subst (λ (z : List Stored). HoldsOn s devices us z leg u e) (one_left x.0 left (sym x.1.0 ∙ tells)) (good-holds s devices us over u leg p e x.0 _ g);
      }
