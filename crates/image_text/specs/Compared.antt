use Rattle.std.specs.Prelude.{ℕ, ◌≡◌, List, Option, Result, Ok, Err}
use Rattle.dix_base.specs.Told.{Appended, AppendedSome, Rose}
use Rattle.rig_api.specs.Headers.{image_size}
use Rattle.rig_api.specs.declared.units.UnitSpec.{UnitSpec}
use Rattle.image_text.specs.DiffText.{count_differ, diff_lines, diff_text}
use Rattle.image_text.specs.declared.diff.Pair.{Pair}
use Rattle.image_blocks.specs.declared.stretch.Stretch.{Stretch}
use Rattle.image_blocks.specs.Blocks.{HasStretch}
use Rattle.image_blocks.specs.Places.{IsStretch, spec_of}
use Rattle.image_text.specs.declared.fault.DiffFault.{DiffFault}
use Rattle.image_text.specs.declared.fault.DiffFault.TheVariants as fault

-- What is told of the stored blocks of two stretches that are compared.

-- the units of two images, and a stretch of each
pub record Places : Type 0 where
  pub units : List UnitSpec
  pub at : Stretch
  pub others : List UnitSpec
  pub to : Stretch

abbrev pub places : List UnitSpec → Stretch → List UnitSpec → Stretch → Places
places us at vs to = record { units = us; at = at; others = vs; to = to }

-- Both images have their stretch, these are as long, and the stores have just the lengths of the images.
pub record CanCompare (p : Places) (len other_len : ℕ) : Type 0 where
  pub place : IsStretch p.units p.at
  pub other_place : IsStretch p.others p.to
  pub many : p.at.count ≡ p.to.count
  pub held : len ≡ image_size p.units
  pub other_held : other_len ≡ image_size p.others

-- the units in which the stretches lie
abbrev pub pair_of : Places → Pair
pair_of p = record { dev = p.at.dev; unit = spec_of p.units p.at.dev; other_dev = p.to.dev; other_unit = spec_of p.others p.to.dev }

-- the lines of these blocks
abbrev pub lines_of : Places → (ones twos : List (List ℕ)) → List ℕ
lines_of p ones twos = diff_lines (pair_of p) p.at.first p.to.first ones twos

-- the text of them: the first line, a line for each two that differ, and the last one
abbrev pub diff_of : Places → (ones twos : List (List ℕ)) → List ℕ
diff_of p ones twos = diff_text (pair_of p) p.at.first p.to.first ones twos

-- how many of them differ
abbrev pub differ_of : Places → (ones twos : List (List ℕ)) → ℕ
differ_of p ones twos = count_differ (pair_of p) p.at.first p.to.first ones twos

-- Blocks of both stretches: as many as each has, each of the length that is stored; where an image is told they are the stored ones.
pub record HaveBlocks (p : Places) (ones twos : List (List ℕ)) (first second : Option (List ℕ)) : Type 0 where
  pub one : HasStretch p.units p.at ones first
  pub other : HasStretch p.others p.to twos second

-- What was written is the text of blocks of both stretches, so many of which differ.
pub record HasCompared (text : (ones twos : List (List ℕ)) → List ℕ) (p : Places) (first second : Option (List ℕ)) (differ : ℕ) (old new : Option (List ℕ)) : Type 0 where
  pub ones : List (List ℕ)
  pub twos : List (List ℕ)
  pub has : HaveBlocks p ones twos first second
  pub counted : differ ≡ differ_of p ones twos
  pub written : Appended (text ones twos) old new

-- What was written is the beginning of such a text.
pub record HasComparedSome (text : (ones twos : List (List ℕ)) → List ℕ) (p : Places) (first second old new : Option (List ℕ)) : Type 0 where
  pub ones : List (List ℕ)
  pub twos : List (List ℕ)
  pub has : HaveBlocks p ones twos first second
  pub written : AppendedSome (text ones twos) old new

-- the counts of faults of two stores and of a sink, before and after
pub record Counts : Type 0 where
  pub first : ℕ
  pub first_after : ℕ
  pub second : ℕ
  pub second_after : ℕ
  pub sink : ℕ
  pub sink_after : ℕ

abbrev pub counts : (first first_after second second_after sink sink_after : ℕ) → Counts
counts a b c d e f = record { first = a; first_after = b; second = c; second_after = d; sink = e; sink_after = f }

-- How the comparing of two stretches ends: all was compared, or a store or the sink failed, whose count rose.
abbrev pub DiffEnds : Result ℕ DiffFault → (text : (ones twos : List (List ℕ)) → List ℕ) → Places → (first second : Option (List ℕ)) → Counts → (old new : Option (List ℕ)) → Type 0
DiffEnds (Ok differ) text p first second n old new = HasCompared text p first second differ old new
DiffEnds (Err fault.First) text p first second n old new = Rose n.first n.first_after × HasComparedSome text p first second old new
DiffEnds (Err fault.Second) text p first second n old new = Rose n.second n.second_after × HasComparedSome text p first second old new
DiffEnds (Err fault.Sink) text p first second n old new = Rose n.sink n.sink_after × HasComparedSome text p first second old new
