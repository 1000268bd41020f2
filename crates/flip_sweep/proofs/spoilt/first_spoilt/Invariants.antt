use Rattle.std.proofs.Common.{◌≡◌, ◌+◌, ◌≤◌, true, length}
use Rattle.std.specs.List.{list_all}
use Rattle.rig_api.specs.Headers.{all_bytes, is_spec}
use Rattle.rig_api.specs.Image.{units_from}
use Rattle.flip_sweep.specs.Verdicts.{first_spoilt}
use Rattle.flip_sweep.proofs.spoilt.first_spoilt.Given as goal

abbrev pub invariant-loop-unit : goal.invariant-loop-unit
invariant-loop-unit l = record {
  spoilt : first_spoilt l.dev (units_from l.left l.before) (units_from l.left l.rest) ≡ first_spoilt 0 (units_from l.units l.was) (units_from l.units l.now);
  specs : list_all is_spec l.left ≡ true;
  was : length l.before ≡ all_bytes l.left;
  now : length l.rest ≡ all_bytes l.left;
  few : l.dev + length l.left ≤ 8;
}

abbrev pub decreases-loop-unit : goal.decreases-loop-unit
decreases-loop-unit l = length l.left
