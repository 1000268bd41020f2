-- One more entry of a list that is gathered from a line.
use Rattle.std.proofs.Common.{List, ◌++◌, Result, Ok, Err}
use Rattle.script_lines.specs.declared.kind.ScriptKind.{ScriptKind}

-- what was read so far, with what follows
abbrev pub after : {A : Type 0} → List A → Result (List A) ScriptKind → Result (List A) ScriptKind
after done (Ok more) = Ok (done ++ more)
after done (Err k) = Err k
