use Rattle.std.specs.Prelude.{ℕ, List, [], ◌∷◌, Option, Result}
use Rattle.dix_base.specs.Stores.{StoreState}
use Rattle.image_blocks.specs.Places.{part_in, whole_in}
use Rattle.image_blocks.specs.declared.stretch.PlaceFault.{PlaceFault}
use Rattle.image_blocks.specs.declared.stretch.Stretch.{Stretch}
use Rattle.lab_run.specs.declared.place.PlaceWord.{PlaceWord}
use Rattle.lab_run.specs.declared.place.PlaceWord.TheVariants.{Device, Blocks}
use Rattle.rig_api.specs.State.{RigState}
use Rattle.rig_api.specs.declared.units.UnitSpec.{UnitSpec}

-- What a call of the program speaks of.

-- the second image that the words of a `diff` name
abbrev pub second_in : List (List ℕ) → List ℕ
second_in [] = []
second_in (verb ∷ []) = []
second_in (verb ∷ image ∷ []) = []
second_in (verb ∷ image ∷ place ∷ []) = []
second_in (verb ∷ image ∷ place ∷ second ∷ words) = second

-- the blocks of a place, where the units have them, or why they haven't
abbrev pub stretch_in : List UnitSpec → PlaceWord → Result Stretch PlaceFault
stretch_in us (Device dev) = whole_in us dev
stretch_in us (Blocks dev first count) = part_in us dev first count

-- what a call speaks of: its words, and its source, its rig and its two stores before and after
pub record Facts : Type 0 where
  pub words : List (List ℕ)
  pub left : Option (List ℕ)
  pub left_after : Option (List ℕ)
  pub reads : ℕ
  pub reads_after : ℕ
  pub rig : RigState
  pub rig_after : RigState
  pub first : StoreState
  pub first_after : StoreState
  pub second : StoreState
  pub second_after : StoreState

-- a call that works on its source and its first store alone
abbrev pub on_input : List (List ℕ) → (old new : StoreState) → (left left_after : Option (List ℕ)) → (reads reads_after : ℕ) → RigState → StoreState → Facts
on_input words old new left left_after reads reads_after rig second = record {
  words = words;
  left = left;
  left_after = left_after;
  reads = reads;
  reads_after = reads_after;
  rig = rig;
  rig_after = rig;
  first = old;
  first_after = new;
  second = second;
  second_after = second;
}

-- a call that works on its first store alone
abbrev pub on_first : List (List ℕ) → (old new : StoreState) → Option (List ℕ) → ℕ → RigState → StoreState → Facts
on_first words old new left reads rig second = on_input words old new left left reads reads rig second

-- a call that works on its two stores alone
abbrev pub on_both : List (List ℕ) → (old new old_second new_second : StoreState) → Option (List ℕ) → ℕ → RigState → Facts
on_both words old new old_second new_second left reads rig = record {
  words = words;
  left = left;
  left_after = left;
  reads = reads;
  reads_after = reads;
  rig = rig;
  rig_after = rig;
  first = old;
  first_after = new;
  second = old_second;
  second_after = new_second;
}

-- a call that works on its source and its rig alone
abbrev pub on_rig : List (List ℕ) → (left left_after : Option (List ℕ)) → (reads reads_after : ℕ) → (rig rig_after : RigState) → (first second : StoreState) → Facts
on_rig words left left_after reads reads_after rig rig_after first second = record {
  words = words;
  left = left;
  left_after = left_after;
  reads = reads;
  reads_after = reads_after;
  rig = rig;
  rig_after = rig_after;
  first = first;
  first_after = first;
  second = second;
  second_after = second;
}
