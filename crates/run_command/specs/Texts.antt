use Rattle.std.specs.Prelude.{Bool, true, false, List}
use Rattle.std.specs.List.{list_any}
use Rattle.stack_ops.specs.declared.reply.Reply.{Reply}
use Rattle.stack_ops.specs.declared.reply.Reply.TheVariants.{Silent, Whole, Bad, Shown, Medium}

-- Some block failed, or a stored block couldn't be altered.
abbrev pub is_bad : Reply → Bool
is_bad Silent = false
is_bad Whole = false
is_bad (Bad blocks) = true
is_bad (Shown bytes) = false
is_bad Medium = true

abbrev pub has_bad : List Reply → Bool
has_bad replies = list_any is_bad replies
