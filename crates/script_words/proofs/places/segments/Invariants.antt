use Rattle.std.proofs.Common.{◌≡◌, length}
use Rattle.script_words.specs.Cuts.{parts}
use Rattle.script_words.specs.Places.{segs_in, segs_of}
use Rattle.script_words.proofs.Cutting.{joined}
use Rattle.script_words.proofs.places.segments.Given as goal

abbrev pub invariant-loop-first : goal.invariant-loop-first
invariant-loop-first l = joined l.segs.items (segs_of (parts 44 l.rest)) ≡ segs_in l.word

abbrev pub decreases-loop-first : goal.decreases-loop-first
decreases-loop-first l = length l.rest
