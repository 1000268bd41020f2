use Rattle.std.specs.Prelude.{ℕ, ◌+◌, List, [], ◌∷◌, ◌++◌, length, codes, decimal}
use Rattle.hex.specs.Hex.{encode_lower}
use Rattle.pi_tuple.specs.declared.checks.Check.{Check}
use Rattle.pi_tuple.specs.declared.checks.Check.TheVariants.{Guard, AppTag, RefTag}
use Rattle.bio_core.specs.declared.fate.Why.{Why}
use Rattle.bio_core.specs.declared.fate.Why.TheVariants.{Adapter, Target, Block, App, Medium, Refused, Short}
use Rattle.stack_ops.specs.declared.reply.BadBlock.{BadBlock}
use Rattle.stack_ops.specs.declared.reply.Reply.{Reply}
use Rattle.stack_ops.specs.declared.reply.Reply.TheVariants.{Silent, Whole, Bad, Shown, Medium as MediumReply}

abbrev pub check_text : Check → List ℕ
check_text Guard = codes "guard"
check_text AppTag = codes "apptag"
check_text RefTag = codes "ref"

-- the layer that found the fault, and what it found
abbrev pub why_text : Why → List ℕ
why_text (Adapter check) = codes "adapter " ++ check_text check
why_text (Target check) = codes "target " ++ check_text check
why_text (Block check) = codes "block " ++ check_text check
why_text (App check) = codes "app " ++ check_text check
why_text Medium = codes "medium"
why_text (Refused key asc ascq) = codes "refused " ++ (encode_lower (key ∷ []) ++ (codes " " ++ (encode_lower (asc ∷ []) ++ (codes " " ++ encode_lower (ascq ∷ [])))))
why_text Short = codes "short"

-- a line of the op of this number
abbrev pub op_line : ℕ → List ℕ → List ℕ
op_line number what = codes "op " ++ (decimal number ++ (codes " " ++ (what ++ codes "\n")))

-- the line of a block that failed
abbrev pub bad_line : ℕ → BadBlock → List ℕ
bad_line number b = codes "bad " ++ (decimal number ++ (codes " " ++ (decimal b.k ++ (codes " " ++ (why_text b.why ++ codes "\n")))))

abbrev pub bad_lines : ℕ → List BadBlock → List ℕ
bad_lines number [] = []
bad_lines number (b ∷ bs) = bad_line number b ++ bad_lines number bs

-- the lines of the op of this number
abbrev pub lines_of : ℕ → Reply → List ℕ
lines_of number Silent = []
lines_of number Whole = op_line number (codes "whole")
lines_of number (Bad blocks) = op_line number (codes "bad " ++ decimal (length blocks)) ++ bad_lines number blocks
lines_of number (Shown bytes) = op_line number (encode_lower bytes)
lines_of number MediumReply = op_line number (codes "medium")

-- the lines of these replies, the first of them that of the op of this number
abbrev pub lines_from : ℕ → List Reply → List ℕ
lines_from number [] = []
lines_from number (r ∷ rs) = lines_of number r ++ lines_from (number + 1) rs

abbrev pub report : List Reply → List ℕ
report replies = codes "dix report 1\n" ++ lines_from 1 replies
