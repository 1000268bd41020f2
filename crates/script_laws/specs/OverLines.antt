-- Where the blocks of an `over` line lie.
use Rattle.std.specs.Prelude.{ℕ, ◌≡◌, ◌+◌, ◌<◌, ◌≤◌, List, [], ◌∷◌, Result, Ok}
use Rattle.volume_table.specs.Places.{place_in}
use Rattle.volume_table.specs.Tables.{Table}
use Rattle.script_text.specs.Passed.{tree_place}
use Rattle.script_lines.specs.declared.kind.ScriptKind.{ScriptKind}
use Rattle.script_lines.specs.declared.line.ScriptLine.TheVariants.{Over}
use Rattle.script_lines.specs.declared.verb.Verb.TheVariants.{Over as OverVerb}
use Rattle.script_lines.specs.Forms.{line_form}
use Rattle.script_lines.specs.Reading.{◌>>=◌}
use Rattle.script_text.specs.Drafts.{Drafted}
use Rattle.script_text.specs.Language.{nothing_read, text_taken}
use Rattle.script_text.specs.Trees.{tracks_in}

-- what these lines, from this number on, add to what was read before
abbrev pub read_on : ℕ → List (List ℕ) → Drafted → Result Drafted ScriptKind
read_on n [] d = Ok d
read_on n (line ∷ lines) d = text_taken n line d >>= read_on (n + 1) lines

-- An `over` line with these words behind the first, and with these lines before it: `d` is what was read in front of it, and each virtual block of the line's range lies where the tree of the inner volumes read so far says.
pub record LiesInTree (t : Table) (before words : List (List ℕ)) : Type 0 where
  pub d : Drafted
  pub read : read_on 1 before nothing_read ≡ Ok d
  pub start : ℕ
  pub len : ℕ
  pub chunk : ℕ
  pub volumes : List ℕ
  pub says : line_form OverVerb d.block words ≡ Ok (Over start len chunk volumes)
  pub places : (v : ℕ) → start ≤ v → v < start + len → place_in t.entries v ≡ tree_place start chunk (tracks_in d.inner volumes) v
