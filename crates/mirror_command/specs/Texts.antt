use Rattle.std.specs.Prelude.{ℕ, Bool, not, ◌||◌, eqb, List, ◌++◌, codes, decimal}
use Rattle.report_text.specs.Report.{report}
use Rattle.stack_ops.specs.declared.reply.Reply.{Reply}
use Rattle.run_command.specs.Texts.{has_bad}

-- what a repair did: how many blocks were repaired, and of how many no leg was good
abbrev pub repair_line : (repaired lost : ℕ) → List ℕ
repair_line repaired lost = codes "repaired " ++ (decimal repaired ++ (codes " lost " ++ (decimal lost ++ codes "\n")))

-- the report of a script on a mirror: that of its ops, and its last line
abbrev pub mirror_text : List Reply → (repaired lost : ℕ) → List ℕ
mirror_text replies repaired lost = report replies ++ repair_line repaired lost

-- Some block failed, a stored block couldn't be altered, or the repair found a block lost.
abbrev pub is_any_lost : List Reply → (lost : ℕ) → Bool
is_any_lost replies lost = has_bad replies || not (eqb lost 0)
