use Rattle.std.specs.Prelude.{ℕ, Bool, false, not, ◌&&◌, ◌||◌, if◌then◌else◌, List, [], ◌∷◌, ◌++◌, codes}
use Rattle.std.specs.Int.{w16, to_be_bytes}
use Rattle.hex.specs.Hex.{encode_lower}
use Rattle.pi_guard.specs.Guards.{crc}
use Rattle.nvme_front.specs.Commands.{is_read}
use Rattle.nvme_front.specs.Completions.{is_success}
use Rattle.nvme_front.specs.declared.command.NvmCommand.{NvmCommand}
use Rattle.nvme_front.specs.declared.completion.Completion.{Completion}
use Rattle.nvme_command.specs.declared.session_doing.NvmReply.{NvmReply}

-- What a command comes to, and its line.

-- the command, its completion, and the buffers as it leaves them
pub record LineReply : Type 0 where
  pub command : NvmCommand
  pub completion : Completion
  pub body : List ℕ
  pub meta : List ℕ

abbrev pub reply_of : NvmCommand → NvmReply → LineReply
reply_of c r = record { command = c; completion = r.completion; body = r.body.items; meta = r.meta.items }

-- status code type and status code
abbrev pub completion_text : Completion → List ℕ
completion_text c = encode_lower (c.sct ∷ []) ++ (codes " " ++ encode_lower (c.sc ∷ []))

-- metadata, or a hyphen for none
abbrev pub meta_text : List ℕ → List ℕ
meta_text [] = codes "-"
meta_text (b ∷ bs) = encode_lower (b ∷ bs)

-- the CRC of the data, and the metadata
abbrev pub brought : (body meta : List ℕ) → List ℕ
brought body meta = codes " " ++ (encode_lower (to_be_bytes w16 (crc body)) ++ (codes " " ++ meta_text meta))

-- Only a read that succeeded says what it brought.
abbrev pub brings : NvmCommand → Completion → Bool
brings c done = is_read c && is_success done

abbrev pub reply_line : LineReply → List ℕ
reply_line r = completion_text r.completion ++ ((if brings r.command r.completion then brought r.body r.meta else []) ++ codes "\n")

-- a line for each command
abbrev pub replies_text : List LineReply → List ℕ
replies_text [] = []
replies_text (r ∷ rs) = reply_line r ++ replies_text rs

-- a completion isn't 0h/00h
abbrev pub has_failed : List LineReply → Bool
has_failed [] = false
has_failed (r ∷ rs) = not (is_success r.completion) || has_failed rs
