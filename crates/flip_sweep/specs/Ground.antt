-- What stays from run to run.
use Rattle.std.specs.Prelude.{◌≡◌, ◌<◌, ◌≤◌, true, None, length}
use Rattle.run_command.specs.Working.{IsSound}
use Rattle.rig_api.specs.Headers.{image_size, is_layout}
use Rattle.rig_api.specs.Image.{formatted}
use Rattle.flip_sweep.specs.Comes.{came_to, seen_of}
use Rattle.flip_sweep.specs.Flips.{own_fault}
use Rattle.flip_sweep.specs.Swept.{Sweep}
use Rattle.flip_sweep.specs.declared.sweep.Ground.{Ground}

-- what is swept
abbrev pub swept_in : Ground → Sweep
swept_in g = record { byte = g.byte; units = g.units.now; script = g.script.now }

-- The rig holds the formatted image, and the run as it is came to what its script does. The script has no fault of its own, and the byte alters others.
pub record IsGround (g : Ground) : Type 0 where
  pub layout : is_layout g.units.now ≡ true
  pub sound : IsSound g.script.now
  pub own : own_fault g.script.now ≡ None
  pub byte : 1 ≤ g.byte
  pub byte_fits : g.byte < 256
  pub fresh : g.fresh.store.bytes ≡ formatted g.units.now
  pub plain : seen_of g.plain g.script.now.pages ≡ came_to g.script.now g.units.now
  pub long : length g.plain.rig.store.bytes ≡ image_size g.units.now
