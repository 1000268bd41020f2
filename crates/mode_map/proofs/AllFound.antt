-- The failures that are found as their cells say.
use Rattle.std.proofs.Common.{false, sym, ap, ◌∙◌}
use Rattle.fault_schedule.specs.declared.fault.Crossing.TheVariants.{MediumToTarget}
use Rattle.pi_tuple.specs.Tuples.{ref_tag}
use Rattle.mode_map.specs.Failures.{AreFailuresFound, expected, flip_cell, is_turned}
use Rattle.mode_map.specs.Finders.{flipped}
use Rattle.mode_map.specs.declared.failures.Field.TheVariants.{Data}
use Rattle.mode_map.proofs.DataFlips.{data_flips}
use Rattle.mode_map.proofs.Kept.{lost, older, other, same-joined, torn}
use Rattle.mode_map.proofs.NearFlips.{shows_near}
use Rattle.mode_map.proofs.WireShift.{misread_wire}
use Rattle.mode_map.proofs.Astray.{hit, home, misread, unread, unwritten}

pub all_found : AreFailuresFound
all_found = record {
  data_flips = λ m b owner at e off bytes v c w. data_flips m b owner at e off bytes (is_turned m b off bytes) v c w;
  near_flips = λ m b owner at e off bytes v c w. data_flips m b owner at e off bytes false v c (shows_near m at off bytes e c w) ∙ sym (ap (λ x. expected x (flipped off bytes e.body)) (same-joined (flip_cell Data at m.mode m.ty false)));
  other_block = λ m b owner e lba v c n. other m b owner v e lba c n;
  older_frame = λ m b owner old v c. older m b owner v old c;
  misread = λ m b owner n e v c d. misread m b owner v n e c d;
  misread_wire = λ m b owner n e v c d. misread_wire m b owner n e v c d;
  written_home = λ m b owner n old e v d c. home m b owner v n old e d c;
  written_hit = λ m b other owner n e v c is d. hit m b owner v n other e c (λ same. d (ap ref_tag (sym is) ∙ sym same));
  unwritten = λ m b e next v c. unwritten m b v e next c;
  unread = λ m b owner stored. unread m b owner MediumToTarget stored;
  torn = λ m b owner n old e carried stored v mask z w s. torn m b owner v mask n old e carried stored z w s;
  lost = λ m b owner old e v c d. lost m b owner v old e c d;
}
