use Rattle.std.proofs.Common.{◌≡◌, ◌*◌, ◌^◌, ◌≤◌, take}
use Rattle.dix_run.specs.ScrubText.{all_blocks}
use Rattle.dix_run.proofs.scrub_text.all_blocks.Given as goal

abbrev pub invariant-loop-device : goal.invariant-loop-device
invariant-loop-device l = record {
  value : l.sum ≡ all_blocks (take l.device-index l.devices);
  bound : l.sum ≤ l.device-index * 2 ^ 64;
}
