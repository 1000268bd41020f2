-- What is left of a block that no line keeps from being stored whole.
use Rattle.std.proofs.Common.{◌≡◌, ℕ, true, List, Option, Some, None, refl}
use Rattle.std.proofs.lemmas.Bool.{and_parts, false≢true}
use Rattle.fault_schedule.specs.Altered.{keep_of, kept}
use Rattle.block_path.proofs.Leaves.{leaves_all}
use Rattle.walk_laws.specs.FirstLayer.{is_all, is_served, is_stored_whole}
use Rattle.walk_laws.specs.Settings.{Block, Setting, route}

pub all_none : (o : Option ℕ) → is_all o ≡ true → o ≡ None
all_none None e = refl
all_none (Some n) e = absurd (false≢true e)

pub leaves_whole : (m : Setting) (b : Block) → is_stored_whole m b ≡ true → (old frame : List ℕ) → kept m.site.faults (route m b).label old frame ≡ frame
leaves_whole m b e old frame = leaves_all m.site.faults (route m b).label old frame (all_none (keep_of m.site.faults (route m b).label) (and_parts _ _ (and_parts (is_served m b) _ e).1).0)
