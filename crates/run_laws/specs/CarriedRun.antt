use Rattle.std.specs.Prelude.{ℕ, ◌≡◌, not, ◌&&◌, eqb, List, [], ◌∷◌, get_or}
use Rattle.walk_laws.specs.Passed.{LogEntry, Op, State, act, tell, Sent, Site, plain_tells}
use Rattle.walk_laws.specs.ScriptWalk.{acts_from, script_walk}
use Rattle.walk_laws.specs.Settings.{Setting}
use Rattle.run_laws.specs.Records.{Mixed, is_out, put_frame, recorded, sents, writes_at}

-- The log holds what the walk carries.

-- the frames of a place's read entries that stand after this many write entries
abbrev pub reads_at : Site → (c after : ℕ) → List Sent → List (List ℕ)
reads_at s c after [] = []
reads_at s c after (e ∷ es) = put_frame (not (is_out e.dir) && (eqb (s.cell e.dev e.lba) c && eqb e.after after)) e.came (reads_at s c after es)

-- At each place the write entries are the walk's carried frames, in its order; the read entries between two of these are its read frames there, in any order.
pub record IsCarried (m : Setting) (ops : List Op) (opening : State) (es : List Sent) : Type 0 where
  pub writes : (c : ℕ) → writes_at m.site c es ≡ get_or (script_walk m ops opening).logs c []
  pub reads : (c after : ℕ) → Mixed (reads_at m.site c after (sents (plain_tells act tell (acts_from m 1 ops) opening))) (reads_at m.site c after es)

-- the same of a rig's log
abbrev pub Carried : Setting → List Op → State → List LogEntry → Type 0
Carried m ops opening log = IsCarried m ops opening (recorded m log)
