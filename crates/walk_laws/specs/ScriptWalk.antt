use Rattle.std.specs.Prelude.{ℕ, suc, Bool, if◌then◌else◌, List, [], ◌∷◌, map, get_or, Option, Some, None, ◌++◌, length, take, drop}
use Rattle.pi_guard.specs.Guards.{guard_of}
use Rattle.pi_tuple.specs.Tuples.{tuple_bytes}
use Rattle.fault_schedule.specs.Altered.{byte_at, xored_from}
use Rattle.stack_ops.specs.Passed.{Change, Copy, Flip, Why}
use Rattle.stack_ops.specs.declared.op.Op.{Op}
use Rattle.stack_ops.specs.declared.op.Op.TheVariants.{Fetch, FetchPi, Fill, Overwrite, Put, Seal, Show, Wait, Write, WritePi}
use Rattle.stack_ops.specs.declared.reply.BadBlock.{BadBlock}
use Rattle.stack_ops.specs.declared.reply.Reply.{Reply}
use Rattle.stack_ops.specs.declared.reply.Reply.TheVariants.{Bad, Medium, Shown, Silent, Whole}
use Rattle.block_path.specs.Acts.{Act, State, act, tell}
use Rattle.block_path.specs.Blocks.{ActAnswer, Site, nothing_written, read_block, silent, untouched, write_block, write_block_of_app}
use Rattle.block_path.specs.Moves.{on_bytes}
use Rattle.block_path.specs.Serial.{plain, plain_tells}
use Rattle.walk_laws.specs.Settings.{Setting, route}
use Rattle.walk_laws.specs.Steps.{Alters, Reads, Seals, Sets, Shows, Step, Writes, WritesPi, steps_of}

-- The walk: the ops of a script done one after another, block by block. There are no pieces, queues, groups or commands.

-- `fill` and `put` set bytes.
abbrev pub set_bytes : (at values : List ℕ) → Act ActAnswer
set_bytes at values = on_bytes [] at (λ bytes. values)

abbrev pub show_bytes : List ℕ → Act ActAnswer
show_bytes at = record (on_bytes at [] (λ bytes. [])) { compute = λ seen. record { written = nothing_written; answer = record silent { shown = seen.bytes } } }

-- `seal` makes the tuple of each block: the host's guard of its data, the tag, and the long tag.
abbrev pub seal_block : Setting → (body tuple : List ℕ) → (app rtag : ℕ) → Act ActAnswer
seal_block m body tuple app rtag = on_bytes body tuple (λ bytes. tuple_bytes (record { guard = guard_of m.mode.kind bytes; app = app; rtag = rtag }))

-- the cell from which a change takes the block
abbrev pub source_of : Site → (dev lba : ℕ) → Change → ℕ
source_of s dev lba (Flip off bytes) = s.cell dev lba
source_of s dev lba (Copy from at) = s.cell from at

-- a stored block after a change of it, or the one that is copied there
abbrev pub changed : Change → List ℕ → List ℕ
changed (Flip off bytes) block = xored_from (byte_at off bytes) 0 block
changed (Copy from at) block = block

-- `overwrite` changes a stored block behind the target's back.
abbrev pub overwrite : Site → (dev lba : ℕ) → Change → Act ActAnswer
overwrite s dev lba change = record {
  bytes = untouched;
  blocks = record { reads = source_of s dev lba change ∷ []; writes = s.cell dev lba ∷ [] };
  logs = untouched;
  fates = untouched;
  compute = λ seen. record { written = record nothing_written { blocks = changed change (get_or seen.blocks 0 []) ∷ [] }; answer = silent };
}

abbrev pub act_of : Setting → Step → Act ActAnswer
act_of m (Sets at values) = set_bytes at values
act_of m (Shows at) = show_bytes at
act_of m (Seals body tuple app rtag) = seal_block m body tuple app rtag
act_of m (Writes b app body) = write_block m.site (route m b) app body
act_of m (WritesPi b frame) = write_block_of_app m.site (route m b) frame
act_of m (Reads b owner to) = read_block m.site (route m b) owner to
act_of m (Alters dev lba change) = overwrite m.site dev lba change

-- op i as the acts of its blocks
abbrev pub acts_of : Setting → (i : ℕ) → Op → List (Act ActAnswer)
acts_of m i op = map (act_of m) (steps_of m i op)

-- the bad blocks among those from block k on, by what was found of each
abbrev pub bad_from : ℕ → List (Option Why) → List BadBlock
bad_from k [] = []
bad_from k (None ∷ whys) = bad_from (suc k) whys
bad_from k (Some why ∷ whys) = record { k = k; why = why } ∷ bad_from (suc k) whys

abbrev pub whole_or_bad : List BadBlock → Reply
whole_or_bad [] = Whole
whole_or_bad (b ∷ bad) = Bad (b ∷ bad)

-- a request replies that it is whole, or lists its bad blocks
abbrev pub request_reply : List ActAnswer → Reply
request_reply answers = whole_or_bad (bad_from 0 (map (λ a. a.why) answers))

abbrev pub shown_reply : List ActAnswer → Reply
shown_reply [] = Silent
shown_reply (a ∷ answers) = Shown a.shown

-- what an op replies to its blocks' answers; `fails` says that it is an overwrite whose store call failed
abbrev pub reply_of : (fails : Bool) → Op → List ActAnswer → Reply
reply_of fails (Fill seg byte) answers = Silent
reply_of fails (Put page off bytes) answers = Silent
reply_of fails (Show seg) answers = shown_reply answers
reply_of fails (Seal n body tuples app rtag) answers = Silent
reply_of fails (Write v n body app) answers = request_reply answers
reply_of fails (Fetch v n body) answers = request_reply answers
reply_of fails (WritePi v n body tuples) answers = request_reply answers
reply_of fails (FetchPi v n body tuples) answers = request_reply answers
reply_of fails (Overwrite dev lba change) answers = if fails then Medium else Silent
reply_of fails Wait answers = Silent

-- the cells after the ops from op i on, and their replies
abbrev pub walk_from : Setting → (i : ℕ) → List Op → State → State
walk_from m i [] s = s
walk_from m i (op ∷ ops) s = walk_from m (suc i) ops (plain act (acts_of m i op) s)

abbrev pub replies_from : Setting → (i : ℕ) → List Op → State → List Reply
replies_from m i [] s = []
replies_from m i (op ∷ ops) s = reply_of (m.fails i) op (plain_tells act tell (acts_of m i op) s) ∷ replies_from m (suc i) ops (plain act (acts_of m i op) s)

-- the script's walk: pages, stored blocks and carried frames, and its replies
abbrev pub script_walk : Setting → List Op → State → State
script_walk m ops s = walk_from m 1 ops s

abbrev pub script_replies : Setting → List Op → State → List Reply
script_replies m ops s = replies_from m 1 ops s

-- all acts of the ops from op i on, one op after another
abbrev pub acts_from : Setting → (i : ℕ) → List Op → List (Act ActAnswer)
acts_from m i [] = []
acts_from m i (op ∷ ops) = acts_of m i op ++ acts_from m (suc i) ops

-- the replies that the answers of all acts make
abbrev pub replies_by : Setting → (i : ℕ) → List Op → List ActAnswer → List Reply
replies_by m i [] answers = []
replies_by m i (op ∷ ops) answers =
    reply_of (m.fails i) op (take (length (acts_of m i op)) answers) ∷ replies_by m (suc i) ops (drop (length (acts_of m i op)) answers)
