use Rattle.std.specs.Prelude.{ℕ, ◌≡◌, suc, min, ltb, Bool, true, false, ◌&&◌, eqb, if◌then◌else◌, List, [], ◌∷◌, ◌++◌, length, map, drop, get_or, Option, Some, None, Result, Ok, Err}
use Rattle.fault_schedule.specs.declared.Label.{Label}
use Rattle.cdb_codec.specs.Decoded.{decoded}
use Rattle.cdb_codec.specs.declared.command.Cdb.{Cdb}
use Rattle.cdb_codec.specs.declared.command.CdbFault.{CdbFault}
use Rattle.cdb_codec.specs.declared.command.Rw.{Rw}
use Rattle.walk_laws.specs.Passed.{LogEntry, frames_of, sent_size, request_of, Request, Read, ReadCapacity, Verify, TheVariantsWrite as Write, ActAnswer, Sent, Site, why_ended, Sense, Why, Dir, TheVariantsRead as In, TheVariantsWrite2 as Out}
use Rattle.walk_laws.specs.Settings.{Setting}

-- What a rig's log says of single blocks: an entry is a frame that was moved, an end is a block at which a command ended.

abbrev pub is_out : Dir → Bool
is_out In = false
is_out Out = true

abbrev pub put_frame : Bool → Result (List ℕ) Why → List (List ℕ) → List (List ℕ)
put_frame true (Ok frame) frames = frame ∷ frames
put_frame true (Err why) frames = frames
put_frame false came frames = frames

-- the frames of the write entries of a place, the oldest first; a place is the cell of its device and address
abbrev pub writes_at : Site → (c : ℕ) → List Sent → List (List ℕ)
writes_at s c [] = []
writes_at s c (e ∷ es) = put_frame (is_out e.dir && eqb (s.cell e.dev e.lba) c) e.came (writes_at s c es)

-- no op has this number
abbrev pub nobody : Label
nobody = record { op = 0; k = 0 }

-- one more entry or end: it stands after so many write entries of its place
abbrev pub stamped : Site → List Sent → Label → Dir → (dev lba : ℕ) → Result (List ℕ) Why → Sent
stamped s es label dir dev lba came = record { label = label; dir = dir; dev = dev; lba = lba; came = came; after = length (writes_at s (s.cell dev lba) es) }

-- what came of a command's blocks: the frames of those that are done; behind them, where it ended before the last, why it did
abbrev pub came_of : (n done : ℕ) → Option Sense → List (List ℕ) → List (Result (List ℕ) Why)
came_of n done sense frames = map (λ frame. Ok frame) frames ++ (if ltb done n then Err (why_ended sense) ∷ [] else [])

-- The blocks lie one address after another, and the labels name them in turn.
abbrev pub put_blocks : Site → Dir → (dev lba : ℕ) → List Label → List (Result (List ℕ) Why) → List Sent → List Sent
put_blocks s dir dev lba labels [] es = es
put_blocks s dir dev lba labels (came ∷ cames) es =
    put_blocks s dir dev (suc lba) (drop 1 labels) cames (es ++ (stamped s es (get_or labels 0 nobody) dir dev lba came ∷ []))

abbrev pub put_rw : Setting → Dir → Rw → LogEntry → List Sent → List Sent
put_rw m dir c e es =
    let done = e.what.outcome.done in
    put_blocks m.site dir e.what.dev c.lba e.labels (came_of c.n done e.what.outcome.sense (frames_of (sent_size c.protect m.size) (min done c.n) e.moved)) es

abbrev pub put_request : Setting → Request → LogEntry → List Sent → List Sent
put_request m (Read c) e es = put_rw m In c e es
put_request m (Write c) e es = put_rw m Out c e es
put_request m (Verify c) e es = es
put_request m (ReadCapacity len) e es = es

abbrev pub put_decoded : Setting → Result Cdb CdbFault → LogEntry → List Sent → List Sent
put_decoded m (Ok cdb) e es = put_request m (request_of cdb) e es
put_decoded m (Err fault) e es = es

abbrev pub put_entries : Setting → List LogEntry → List Sent → List Sent
put_entries m [] es = es
put_entries m (e ∷ log) es = put_entries m log (put_decoded m (decoded e.what.cdb) e es)

-- the entries and ends of a log, in its order
abbrev pub recorded : Setting → List LogEntry → List Sent
recorded m log = put_entries m log []

abbrev pub is_labelled : Label → Sent → Bool
is_labelled label e = eqb e.label.op label.op && eqb e.label.k label.k

-- the first that stands there of a block
abbrev pub find : Label → List Sent → Option Sent
find label [] = None
find label (e ∷ es) = if is_labelled label e then Some e else find label es

-- No block has two.
abbrev pub NoTwo : List Sent → Type 0
NoTwo [] = Unit {0}
NoTwo (e ∷ es) = (find e.label es ≡ None) × NoTwo es

-- an entry's frame, and after how many write entries of its place it stands
pub record Moved : Type 0 where
  pub frame : List ℕ
  pub after : ℕ

abbrev pub moved_by : Result (List ℕ) Why → ℕ → Option Moved
moved_by (Ok frame) after = Some (record { frame = frame; after = after })
moved_by (Err why) after = None

abbrev pub entry_in : Option Sent → Option Moved
entry_in None = None
entry_in (Some e) = moved_by e.came e.after

abbrev pub ended_by : Result (List ℕ) Why → Option Why
ended_by (Ok frame) = None
ended_by (Err why) = Some why

abbrev pub end_in : Option Sent → Option Why
end_in None = None
end_in (Some e) = ended_by e.came

-- a block's entry, and its end
abbrev pub entry_for : List Sent → Label → Option Moved
entry_for es label = entry_in (find label es)

abbrev pub end_for : List Sent → Label → Option Why
end_for es label = end_in (find label es)

abbrev pub put_sent : Option Sent → List Sent → List Sent
put_sent None es = es
put_sent (Some e) es = e ∷ es

-- what stands on record by these answers, in their order
abbrev pub sents : List ActAnswer → List Sent
sents [] = []
sents (a ∷ answers) = put_sent a.sent (sents answers)

-- The same elements, in whatever order.
abbrev pub Mixed : {X : Type 0} → List X → List X → Type 0
Mixed [] ys = ys ≡ []
Mixed {X = X} (x ∷ xs) ys = (before : List X) × ((after : List X) × ((ys ≡ before ++ (x ∷ after)) × Mixed xs (before ++ after)))
