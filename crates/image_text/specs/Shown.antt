use Rattle.std.specs.Prelude.{ℕ, ◌≡◌, ◌+◌, Bool, List, Option, Result, Ok, Err}
use Rattle.dix_base.specs.Told.{Appended, AppendedSome, Rose}
use Rattle.rig_api.specs.declared.units.UnitSpec.{UnitSpec}
use Rattle.image_text.specs.ShowText.{count_bad, count_unchecked, image_text, show_text}
use Rattle.image_text.specs.declared.show.Tally.{Tally}
use Rattle.image_blocks.specs.declared.stretch.Stretch.{Stretch}
use Rattle.image_blocks.specs.Blocks.{HasStretch}
use Rattle.image_blocks.specs.Places.{spec_of}
use Rattle.image_blocks.specs.declared.fault.WalkFault.{WalkFault}
use Rattle.image_blocks.specs.declared.fault.WalkFault.TheVariants as fault

-- What is shown of the stored blocks of a stretch.

-- the lines of these blocks, or of those at fault alone
abbrev pub lines_of : (only_bad : Bool) → List UnitSpec → Stretch → List (List ℕ) → List ℕ
lines_of only_bad us s blocks = image_text only_bad s.dev (spec_of us s.dev).ty (spec_of us s.dev).size s.first blocks

-- the text of them: the first line, their lines, and the last one
abbrev pub text_of : (only_bad : Bool) → List UnitSpec → Stretch → List (List ℕ) → List ℕ
text_of only_bad us s blocks = show_text only_bad s.dev (spec_of us s.dev) s.first blocks

-- how many of them are at fault
abbrev pub bad_of : List UnitSpec → Stretch → List (List ℕ) → ℕ
bad_of us s blocks = count_bad (spec_of us s.dev).ty (spec_of us s.dev).size s.dev s.first blocks

-- how many of them aren't checked
abbrev pub unchecked_of : List UnitSpec → Stretch → List (List ℕ) → ℕ
unchecked_of us s blocks = count_unchecked (spec_of us s.dev).ty (spec_of us s.dev).size s.first blocks

-- the counts of two lists of blocks, together
abbrev pub both : Tally → Tally → Tally
both a b = record { bad = a.bad + b.bad; unchecked = a.unchecked + b.unchecked }

-- What was written is the text of blocks of the stretch, so many of them at fault and so many unchecked. Where the image is told they are the stored ones.
pub record HasShown (text : List (List ℕ) → List ℕ) (us : List UnitSpec) (s : Stretch) (image : Option (List ℕ)) (tally : Tally) (old new : Option (List ℕ)) : Type 0 where
  pub blocks : List (List ℕ)
  pub has : HasStretch us s blocks image
  pub bad : tally.bad ≡ bad_of us s blocks
  pub unchecked : tally.unchecked ≡ unchecked_of us s blocks
  pub written : Appended (text blocks) old new

-- What was written is the beginning of such a text.
pub record HasShownSome (text : List (List ℕ) → List ℕ) (us : List UnitSpec) (s : Stretch) (image : Option (List ℕ)) (old new : Option (List ℕ)) : Type 0 where
  pub blocks : List (List ℕ)
  pub has : HasStretch us s blocks image
  pub written : AppendedSome (text blocks) old new

-- How the showing of a stretch ends: it was shown, or store or sink failed, whose count rose.
abbrev pub ShowEnds : Result Tally WalkFault → (text : List (List ℕ) → List ℕ) → List UnitSpec → Stretch → (image : Option (List ℕ)) → (stores stores_after sinks sinks_after : ℕ) → (old new : Option (List ℕ)) → Type 0
ShowEnds (Ok tally) text us s image o n p q old new = HasShown text us s image tally old new
ShowEnds (Err fault.Store) text us s image o n p q old new = Rose o n × HasShownSome text us s image old new
ShowEnds (Err fault.Sink) text us s image o n p q old new = Rose p q × HasShownSome text us s image old new
