use Rattle.std.specs.Prelude.{ℕ, suc, ◌+◌, ◌-◌, Bool, true, false, List, [], ◌∷◌, ◌++◌, map, get_or, set, replicate, Option, Some, None}
use Rattle.page_pool.specs.Cells.{gather}
use Rattle.bio_core.specs.declared.fate.Why.{Why}
use Rattle.stack_ops.specs.declared.op.Op.{Op}
use Rattle.stack_ops.specs.declared.op.Op.TheVariants.{Fetch, FetchPi, Fill, Overwrite, Put, Seal, Show, Wait, Write, WritePi}
use Rattle.stack_ops.specs.declared.reply.Reply.{Reply}
use Rattle.block_path.specs.Acts.{State, act, tell}
use Rattle.block_path.specs.Blocks.{ActAnswer, silent}
use Rattle.block_path.specs.Serial.{plain, plain_tells}
use Rattle.walk_laws.specs.Past.{Event, event_of, steps_from}
use Rattle.walk_laws.specs.ScriptWalk.{act_of, reply_of}
use Rattle.walk_laws.specs.Settings.{Block, Setting}
use Rattle.mirror_laws.specs.declared.marks.Marks.{Marks}
use Rattle.walk_laws.specs.Steps.{Alters, Reads, Seals, Sets, Shows, Step, Writes, WritesPi, steps_of}

-- A mirror: a volume of twice `half` blocks, on which block u of the mirror stands at virtual block u, on leg 0, and at half + u, on leg 1.
-- A script's steps are done one after another; a block of a write goes to both legs, and a block of a read is taken from the first leg that has it and delivers it.

-- fresh on both legs
abbrev pub fresh : Marks
fresh = record { leg0 = true; leg1 = true }

-- pages and stored blocks, and the marks of each block
pub record Mirror : Type 0 where
  pub state : State
  pub marks : List Marks

abbrev pub mirror_opened : (half : ℕ) → State → Mirror
mirror_opened half opening = record { state = opening; marks = replicate half fresh }

abbrev pub marks_of : List Marks → ℕ → Marks
marks_of marks u = get_or marks u fresh

-- how many blocks a request has, and the request of this number
abbrev pub blocks_in : Op → ℕ
blocks_in (Fill seg byte) = 0
blocks_in (Put page off bytes) = 0
blocks_in (Show seg) = 0
blocks_in (Seal n body tuples app rtag) = 0
blocks_in (Write v n body app) = n
blocks_in (Fetch v n body) = n
blocks_in (WritePi v n body tuples) = n
blocks_in (FetchPi v n body tuples) = n
blocks_in (Overwrite dev lba change) = 0
blocks_in Wait = 0

abbrev pub count_of : List Op → (op : ℕ) → ℕ
count_of ops op = blocks_in (get_or ops (op - 1) Wait)

-- Where neither leg did it a block is listed, with the finding of leg 0.
abbrev pub neither : Option Why → Option Why → Option Why
neither None other = None
neither (Some why) None = None
neither (Some why) (Some other) = Some why

-- So by the findings of the legs that were asked, in turn: both, or just one.
abbrev pub listed : List (Option Why) → Option Why
listed [] = None
listed (why ∷ []) = why
listed (why ∷ other ∷ rest) = neither why other

-- A leg that accepts is fresh, and one that doesn't is stale. Where neither does, the marks stay.
abbrev pub marked : Option Why → Option Why → Marks → Marks
marked None None old = fresh
marked None (Some why) old = record { leg0 = true; leg1 = false }
marked (Some why) None old = record { leg0 = false; leg1 = true }
marked (Some why) (Some other) old = old

abbrev pub marked_by : List (Option Why) → Marks → Marks
marked_by [] old = old
marked_by (why ∷ []) old = old
marked_by (why ∷ other ∷ rest) old = marked why other old

-- A read asks leg 0 if that is fresh, and if it is stale or doesn't deliver, leg 1 if that is fresh. No block has two stale marks.
abbrev pub asked : (fresh0 fresh1 delivers0 : Bool) → (leg0 leg1 : Step) → List Step
asked true true true leg0 leg1 = leg0 ∷ []
asked true true false leg0 leg1 = leg0 ∷ leg1 ∷ []
asked true false delivers0 leg0 leg1 = leg0 ∷ []
asked false fresh1 delivers0 leg0 leg1 = leg1 ∷ []

abbrev pub is_none : Option Why → Bool
is_none None = true
is_none (Some why) = false

module _ (m : Setting) (half : ℕ) (count : ℕ → ℕ) where
  -- The block on leg 1. Fault lines name it by its place behind all blocks of its request.
  abbrev pub twin : Block → Block
  twin b = record { op = b.op; k = count b.op + b.k; virt = half + b.virt }

  -- What a step asks of the legs, one after another. The script of a mirror has no requests with the application's tuples.
  abbrev pub asks : Step → Mirror → List Step
  asks (Sets at values) s = Sets at values ∷ []
  asks (Shows at) s = Shows at ∷ []
  asks (Seals body tuple app rtag) s = Seals body tuple app rtag ∷ []
  asks (Writes b app body) s = Writes b app body ∷ Writes (twin b) app body ∷ []
  asks (WritesPi b frame) s = []
  asks (Reads b owner to) s =
      asked (marks_of s.marks b.virt).leg0 (marks_of s.marks b.virt).leg1 (is_none (tell (act_of m (Reads b owner to)) s.state).why) (Reads b owner to) (Reads (twin b) owner to)
  asks (Alters dev lba change) s = Alters dev lba change ∷ []

  -- and what these answer
  abbrev pub answers : Step → Mirror → List ActAnswer
  answers step s = plain_tells act tell (map (act_of m) (asks step s)) s.state

  abbrev pub findings : Step → Mirror → List (Option Why)
  findings step s = map (λ a. a.why) (answers step s)

  -- the marks after a step
  abbrev pub marks_after : Step → Mirror → List Marks
  marks_after (Sets at values) s = s.marks
  marks_after (Shows at) s = s.marks
  marks_after (Seals body tuple app rtag) s = s.marks
  marks_after (Writes b app body) s = set s.marks b.virt (marked_by (findings (Writes b app body) s) (marks_of s.marks b.virt))
  marks_after (WritesPi b frame) s = s.marks
  marks_after (Reads b owner to) s = s.marks
  marks_after (Alters dev lba change) s = s.marks

  -- A step of the mirror, and what it answers. A read that no leg delivers leaves zeros.
  abbrev pub done : Step → Mirror → Mirror
  done step s = record { state = plain act (map (act_of m) (asks step s)) s.state; marks = marks_after step s }

  abbrev pub answer : Step → Mirror → ActAnswer
  answer step s = record (get_or (answers step s) 0 silent) { why = listed (findings step s) }

  -- what was accepted by the mirror, as events on leg 0
  abbrev pub accepted : Step → Mirror → List Event
  accepted (Sets at values) s = []
  accepted (Shows at) s = []
  accepted (Seals body tuple app rtag) s = []
  accepted (Writes b app body) s = event_of (answer (Writes b app body) s).why b (record { body = gather 0 body s.state.bytes; app = app })
  accepted (WritesPi b frame) s = []
  accepted (Reads b owner to) s = []
  accepted (Alters dev lba change) s = []

  -- the newest first
  abbrev pub mirror_past : List Step → Mirror → List Event → List Event
  mirror_past [] s past = past
  mirror_past (step ∷ steps) s past = mirror_past steps (done step s) (accepted step s ++ past)

  -- all that is asked of the legs
  abbrev pub all_asked : List Step → Mirror → List Step
  all_asked [] s = []
  all_asked (step ∷ steps) s = asks step s ++ all_asked steps (done step s)

  -- the replies of the ops from op i on
  abbrev pub replies_from : (i : ℕ) → List Op → Mirror → List Reply
  replies_from i [] s = []
  replies_from i (op ∷ ops) s = reply_of (m.fails i) op (plain_tells done answer (steps_of m i op) s) ∷ replies_from (suc i) ops (plain done (steps_of m i op) s)

-- A script on a mirror: what it leaves, and its replies.
abbrev pub mirror_walk : Setting → (half : ℕ) → List Op → State → Mirror
mirror_walk m half ops opening = plain (done m half (count_of ops)) (steps_from m 1 ops) (mirror_opened half opening)

abbrev pub mirror_replies : Setting → (half : ℕ) → List Op → State → List Reply
mirror_replies m half ops opening = replies_from m half (count_of ops) 1 ops (mirror_opened half opening)
