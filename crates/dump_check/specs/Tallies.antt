use Rattle.std.specs.Prelude.{ℕ, ◌+◌, ◌≤◌, Bool, eqb, ◌||◌, if◌then◌else◌, List, [], ◌∷◌}
use Rattle.dump_check.specs.declared.finding.Judgement.{Judgement}
use Rattle.dump_check.specs.declared.finding.Judgement.TheVariants.{Nothing, Escape, Guard, AppTag, RefTag}
use Rattle.dump_check.specs.declared.form.Form.{Form}
use Rattle.dump_check.specs.declared.tally.DumpTally.{DumpTally}
use Rattle.dump_check.specs.Finding.{found_of}

-- What is counted of the blocks of a dump.

abbrev pub one_if : Bool → ℕ
one_if holds = if holds then 1 else 0

abbrev pub none_counted : DumpTally
none_counted = record { blocks = 0; bad = 0; unchecked = 0; tags = 0; same = 0; shift = 0 }

-- with one block more, of which this is found
abbrev pub counted : DumpTally → Judgement → DumpTally
counted t Nothing = record { blocks = t.blocks + 1; bad = t.bad; unchecked = t.unchecked; tags = t.tags; same = t.same; shift = t.shift }
counted t Escape = record { blocks = t.blocks + 1; bad = t.bad; unchecked = t.unchecked + 1; tags = t.tags; same = t.same; shift = t.shift }
counted t Guard = record { blocks = t.blocks + 1; bad = t.bad + 1; unchecked = t.unchecked; tags = t.tags; same = t.same; shift = t.shift }
counted t AppTag = record { blocks = t.blocks + 1; bad = t.bad + 1; unchecked = t.unchecked; tags = t.tags; same = t.same; shift = t.shift }
counted t (RefTag shift) = record {
  blocks = t.blocks + 1;
  bad = t.bad + 1;
  unchecked = t.unchecked;
  tags = t.tags + 1;
  same = t.same + one_if (eqb t.tags 0 || eqb shift t.shift);
  shift = if eqb t.tags 0 then shift else t.shift;
}

-- with these blocks more, one after another
abbrev pub counted_all : Form → DumpTally → List (List ℕ) → DumpTally
counted_all f t [] = t
counted_all f t (b ∷ bs) = counted_all f (counted t (found_of f t.blocks b)) bs

-- no count is above that of which it is a part
pub record IsTally (t : DumpTally) : Type 0 where
  pub bad : t.bad ≤ t.blocks
  pub unchecked : t.unchecked ≤ t.blocks
  pub tags : t.tags ≤ t.blocks
  pub same : t.same ≤ t.tags
