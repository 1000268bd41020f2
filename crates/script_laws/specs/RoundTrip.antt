use Rattle.std.specs.Prelude.{ℕ, ◌≡◌, ◌+◌, ◌≤◌, true, List, length, Ok}
use Rattle.script_text.specs.declared.script.Script.{Script}
use Rattle.script_text.specs.Language.{script_in}
use Rattle.script_laws.specs.Texts.{has_short_lines}
use Rattle.dix_base.specs.declared.reading.TheConstants.{MOST_BYTES}

-- The text is within the limits: 4,194,304 bytes, and 4,096 on a line.
pub record IsWithinLimits (text : List ℕ) : Type 0 where
  pub size : length text ≤ MOST_BYTES
  pub lines : has_short_lines text ≡ true

-- The second script is the first, apart from the numbers of its lines.
pub record IsSame (s t : Script) : Type 0 where
  pub same : t ≡ record s { expect_line = t.expect_line; lines = t.lines }
  pub numbers : length t.lines ≡ length t.faults + length t.ops

-- The text reads as the script, apart from the numbers of its lines.
pub record ReadsAs (text : List ℕ) (s : Script) : Type 0 where
  pub found : Script
  pub reads : script_in text ≡ Ok found
  pub is_same : IsSame s found
