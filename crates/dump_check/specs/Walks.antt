use Rattle.std.specs.Prelude.{ℕ, ◌≡◌, ◌≤◌, List, ◌++◌, Option, Result, Ok, Err}
use Rattle.dix_base.specs.Told.{Appended, AppendedSome, IsAtEnd, Rose, Took}
use Rattle.dump_check.specs.declared.walking.TheConstants.{MOST_BLOCKS}
use Rattle.dump_check.specs.declared.form.Dump.{Dump}
use Rattle.dump_check.specs.declared.walking.CheckFault.{CheckFault}
use Rattle.dump_check.specs.declared.walking.CheckFault.TheVariants as fault
use Rattle.dump_check.specs.declared.walking.Checked.{Checked}
use Rattle.dump_check.specs.Lines.{bad_text, check_text, rest_of, tally_of}

-- How the check of a dump ends.

-- These bytes came and nothing is left, and this is counted of them. What was written is this text of them.
pub record HasChecked (text : Dump → List ℕ → List ℕ) (d : Dump) (c : Checked) (left left_after old new : Option (List ℕ)) : Type 0 where
  pub bytes : List ℕ
  pub took : Took bytes left left_after
  pub end : IsAtEnd left_after
  pub tally : c.tally ≡ tally_of d.form bytes
  pub rest : c.rest ≡ rest_of d.form bytes
  pub written : Appended (text d bytes) old new

-- These bytes came, and with those that were left they are all that the source held, where told. What was written is a prefix of this text of all of them.
pub record HasCheckedSome (text : Dump → List ℕ → List ℕ) (d : Dump) (left left_after old new : Option (List ℕ)) : Type 0 where
  pub came : List ℕ
  pub more : List ℕ
  pub rest : Option (List ℕ)
  pub took : Took came left left_after
  pub held : Took (came ++ more) left rest
  pub end : IsAtEnd rest
  pub written : AppendedSome (text d (came ++ more)) old new

-- Bytes came, and the lines of the bad blocks of the first of them were written, and nothing else.
pub record HasCheckedFront (d : Dump) (left left_after old new : Option (List ℕ)) : Type 0 where
  pub bytes : List ℕ
  pub more : List ℕ
  pub took : Took (bytes ++ more) left left_after
  pub written : Appended (bad_text d bytes) old new

-- The source gave its last byte, and the text was written and no call failed; or the source failed, or the sink, whose count rose; or there are too many blocks.
abbrev pub EndsWith : (text : Dump → List ℕ → List ℕ) → Result Checked CheckFault → Dump → (sources sources_after : ℕ) → (left left_after : Option (List ℕ)) → (sinks sinks_after : ℕ) → (old new : Option (List ℕ)) → Type 0
EndsWith text (Ok c) d o n left left_after p q old new = HasChecked text d c left left_after old new × (n ≡ o) × (q ≡ p)
EndsWith text (Err fault.Source) d o n left left_after p q old new = Rose o n × HasCheckedFront d left left_after old new × (q ≡ p)
EndsWith text (Err fault.Sink) d o n left left_after p q old new = Rose p q × HasCheckedSome text d left left_after old new
EndsWith text (Err fault.Endless) d o n left left_after p q old new = (bytes : List ℕ) × Took bytes left left_after × (MOST_BLOCKS ≤ (tally_of d.form bytes).blocks) × Appended (bad_text d bytes) old new × (n ≡ o) × (q ≡ p)

-- with the lines of the bad blocks alone
abbrev pub WalkEnds : Result Checked CheckFault → Dump → (sources sources_after : ℕ) → (left left_after : Option (List ℕ)) → (sinks sinks_after : ℕ) → (old new : Option (List ℕ)) → Type 0
WalkEnds = EndsWith bad_text

-- with all
abbrev pub CheckEnds : Result Checked CheckFault → Dump → (sources sources_after : ℕ) → (left left_after : Option (List ℕ)) → (sinks sinks_after : ℕ) → (old new : Option (List ℕ)) → Type 0
CheckEnds = EndsWith check_text
