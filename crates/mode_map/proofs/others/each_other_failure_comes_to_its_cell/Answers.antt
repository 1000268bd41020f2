use Rattle.mode_map.proofs.Misdirected.{found-at, hit, misread, stored-at, written-off}
use Rattle.mode_map.proofs.Torn.{torn}
use Rattle.mode_map.proofs.Unreadable.{unreadable, unstorable}
use Rattle.mode_map.proofs.others.each_other_failure_comes_to_its_cell.Goals as goal

pub returns : goal.returns
returns c = record {
  unstorable = unstorable;
  unreadable = λ m b owner stored body. unreadable m b owner stored;
  torn = torn;
  found_at = found-at;
  stored_at = stored-at;
  misread = λ m b owner link by other served c n. misread m b owner by served link other c n;
  written_off = λ m b owner link by old e served d c n. written-off m b owner by served e c link old d n;
  hit = λ m b other owner link by e served c n is. hit m b owner by served e c other link n is;
}
