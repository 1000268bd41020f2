use Rattle.std.proofs.Common.{◌≡◌, ◌+◌, ◌≤◌, length}
use Rattle.image_text.specs.DiffText.{unlike_from, unlike_of}
use Rattle.image_text.proofs.unlike.unlike_of.Given as goal

abbrev pub invariant-loop-x : goal.invariant-loop-x
invariant-loop-x l = record {
  unlike : unlike_from l.found l.at l.rest l.other ≡ unlike_of l.one l.two;
  few : l.found.count ≤ l.at;
  place : l.at + length l.rest ≡ length l.one;
}

abbrev pub decreases-loop-x : goal.decreases-loop-x
decreases-loop-x l = length l.rest
