use Rattle.std.specs.Prelude.{ℕ, ◌≡◌, ◌+◌, true, List, [], ◌∷◌, ◌++◌}
use Rattle.bio_core.specs.declared.fate.Why.TheVariants.{Target}
use Rattle.pi_scrub.specs.Faults.{all_faults}
use Rattle.pi_scrub.specs.declared.found.Found.{Found}
use Rattle.pi_tuple.specs.declared.checks.PiType.{PiType}
use Rattle.pi_tuple.specs.declared.tuple.Tuple.{Tuple}
use Rattle.rig_api.specs.Frames.{data_of, tuple_of}
use Rattle.rig_api.specs.Target.{Stored}
use Rattle.image_text.specs.DiffText.{count_differ, counted_tag, have_tuples}
use Rattle.image_text.specs.declared.diff.Pair.{Pair}
use Rattle.image_text.specs.Sights.{verdict_of}
use Rattle.image_text.specs.declared.sight.Verdict.{Verdict}
use Rattle.image_text.specs.declared.sight.Verdict.TheVariants.{NoTuple, Escape, AtFault, Good}

-- The lines that tell a fault.

-- an entry for the line of a block, where it tells a fault
abbrev pub told_at : (dev lba : ℕ) → Verdict → List Found
told_at dev lba NoTuple = []
told_at dev lba Escape = []
told_at dev lba (AtFault check) = record { dev = dev; lba = lba; why = Target check } ∷ []
told_at dev lba Good = []

-- an entry for each line of these blocks that tells one, from this address on
abbrev pub told_from : PiType → (size dev lba : ℕ) → List (List ℕ) → List Found
told_from ty size dev lba [] = []
told_from ty size dev lba (b ∷ bs) = told_at dev lba (verdict_of ty size lba b) ++ told_from ty size dev (lba + 1) bs

-- of all blocks of all units, by device and address
abbrev pub told_of_all : (dev : ℕ) → List Stored → List Found
told_of_all dev [] = []
told_of_all dev (u ∷ us) = told_from u.ty u.size dev u.first u.blocks ++ told_of_all (dev + 1) us

-- The lines of all blocks that tell a fault are what a scrub lists, entry by entry.
abbrev pub ShowsWhatAScrubLists : Type 0
ShowsWhatAScrubLists = (us : List Stored) → told_of_all 0 us ≡ all_faults 0 us

-- The tuples of two blocks at these addresses are alike: guards, application tags, and what the reference tags count as.
pub record TuplesAgree (p : Pair) (lba other : ℕ) (one two : Tuple) : Type 0 where
  pub guard : one.guard ≡ two.guard
  pub app : one.app ≡ two.app
  pub tag : counted_tag p.unit.ty lba one.rtag ≡ counted_tag p.other_unit.ty other two.rtag

-- Two stored blocks are alike: in their data and, where both units have tuples, in these.
pub record BlocksAgree (p : Pair) (lba other : ℕ) (one two : List ℕ) : Type 0 where
  pub content : data_of p.unit.size one ≡ data_of p.other_unit.size two
  pub tuples : have_tuples p ≡ true → TuplesAgree p lba other (tuple_of p.unit.size one) (tuple_of p.other_unit.size two)

-- Each two of these blocks are, from these addresses on.
abbrev pub AllAgree : Pair → (lba other : ℕ) → (ones twos : List (List ℕ)) → Type 0
AllAgree p lba other [] twos = Unit {0}
AllAgree p lba other (one ∷ ones) [] = Unit {0}
AllAgree p lba other (one ∷ ones) (two ∷ twos) = BlocksAgree p lba other one two × AllAgree p (lba + 1) (other + 1) ones twos

-- No block is counted as one that differs exactly where all are alike.
abbrev pub NothingDiffers : Type 0
NothingDiffers = (p : Pair) (lba other : ℕ) (ones twos : List (List ℕ)) → (count_differ p lba other ones twos ≡ 0 → AllAgree p lba other ones twos) × (AllAgree p lba other ones twos → count_differ p lba other ones twos ≡ 0)
