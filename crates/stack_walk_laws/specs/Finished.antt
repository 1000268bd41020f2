use Rattle.std.specs.Prelude.{ℕ, suc, ◌≡◌, List, [], ◌∷◌, length, Option, IfOk}
use Rattle.bio_core.specs.declared.fate.Why.{Why}
use Rattle.block_path.specs.Acts.{State}
use Rattle.block_path.specs.Blocks.{ActAnswer, Sent, silent}
use Rattle.block_path.specs.Moves.{hidden}
use Rattle.run_laws.specs.Passed.{reply_of, script_replies, script_walk, Block, Setting, route, Alters, Reads, Seals, Sets, Shows, Step, Writes, WritesPi, steps_of, Op, Reply}
use Rattle.block_path.specs.Routes.{wire_size}
use Rattle.run_laws.specs.ToldRun.{IsRecordOfRun, came_by}
use Rattle.stack_walk_laws.specs.Slots.{Admitted, Carried, Cut, Done, Settled, Status, Waits}

-- A stack once all has ended, and what it replies.

abbrev pub IsSettled : Status → Type 0
IsSettled status = (why : Option Why) × (status ≡ Settled why)

abbrev pub IsDone : Status → Type 0
IsDone status = (shown : List ℕ) × (status ≡ Done shown)

-- A block of a request is settled, and what is no block is done.
abbrev pub HasEnded : Step → Status → Type 0
HasEnded (Sets at values) status = IsDone status
HasEnded (Shows at) status = IsDone status
HasEnded (Seals body tuple app rtag) status = IsDone status
HasEnded (Writes b app body) status = IsSettled status
HasEnded (WritesPi b frame) status = IsSettled status
HasEnded (Reads b owner to) status = IsSettled status
HasEnded (Alters dev lba change) status = IsDone status

-- the steps from block k on, and those of the ops from op i on
abbrev pub HaveEnded : (k : ℕ) → List Step → (ℕ → Status) → Type 0
HaveEnded k [] status = Unit {0}
HaveEnded k (step ∷ steps) status = HasEnded step (status k) × HaveEnded (suc k) steps status

abbrev pub AllEnded : Setting → (i : ℕ) → List Op → (ℕ → ℕ → Status) → Type 0
AllEnded m i [] status = Unit {0}
AllEnded m i (op ∷ ops) status = HaveEnded 0 (steps_of m i op) (status i) × AllEnded m (suc i) ops status

-- what is known of a step that ended: with what it is listed, or what it shows
abbrev pub answer_of : Status → ActAnswer
answer_of Waits = silent
answer_of Admitted = silent
answer_of Cut = silent
answer_of (Carried fate) = silent
answer_of (Settled why) = record silent { why = why }
answer_of (Done shown) = record silent { shown = shown }

abbrev pub answers_of : (k : ℕ) → List Step → (ℕ → Status) → List ActAnswer
answers_of k [] status = []
answers_of k (step ∷ steps) status = answer_of (status k) ∷ answers_of (suc k) steps status

-- the stack's replies, of the ops from op i on
abbrev pub replies_of : Setting → (i : ℕ) → List Op → (ℕ → ℕ → Status) → List Reply
replies_of m i [] status = []
replies_of m i (op ∷ ops) status = reply_of (m.fails i) op (answers_of 0 (steps_of m i op) (status i)) ∷ replies_of m (suc i) ops status

-- Pages in front of the private ones, stored blocks and carried frames, replies, and what stands on record, are the walk's.
pub record EndsAsWalk (m : Setting) (n : ℕ) (ops : List Op) (opening : State) (status : ℕ → ℕ → Status) (now : State) (es : List Sent) : Type 0 where
  pub cells : hidden n now ≡ script_walk m ops (hidden n opening)
  pub replies : replies_of m 1 ops status ≡ script_replies m ops (hidden n opening)
  pub recorded : IsRecordOfRun m ops (hidden n opening) es

-- Each frame that came of a block has the size of the wire's frames.
abbrev pub FramesFit : Setting → List Sent → Type 0
FramesFit m es = (b : Block) → IfOk (came_by es (route m b).label) (λ frame. length frame ≡ wire_size (route m b))
