-- A right header lays its units out.
use Rattle.rig_api.specs.declared.units.Version.{Version}
use Rattle.std.proofs.Common.{List, ℕ, ◌≡◌, true}
use Rattle.rig_api.specs.Headers.{is_header, is_layout, specs_in}
use Rattle.fault_schedule.proofs.Passed.{and_first}

pub header_layout : (v : Version) (b : List ℕ) → is_header v b ≡ true → is_layout (specs_in v b) ≡ true
unfolding is_header
header_layout v b h = and_first (is_layout (specs_in v b)) _ h
