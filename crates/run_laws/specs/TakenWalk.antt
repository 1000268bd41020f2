use Rattle.std.specs.Prelude.{ℕ, suc, false, List, [], ◌∷◌, ◌++◌, length, map, drop, get_or, Option, Some, None}
use Rattle.fault_schedule.specs.Altered.{altered}
use Rattle.fault_schedule.specs.declared.fault.Crossing.TheVariants.{AdapterToHost, HostToAdapter}
use Rattle.fault_schedule.specs.declared.fault.FaultLine.{FaultLine}
use Rattle.walk_laws.specs.Passed.{Op, Overwrite, Reply, Silent, Act, State, act, tell, ActAnswer, Sent, own_frame, read_block, read_by, tuple_after, write_block, write_block_of_app, written_by, Route, plain, plain_tells, Delivers, Stops, WayIn, mapped_back, received, Fails, Stores, WayOut, mapped_out, sent, Why}
use Rattle.walk_laws.specs.ScriptWalk.{act_of, reply_of}
use Rattle.walk_laws.specs.Settings.{Setting, route}
use Rattle.walk_laws.specs.Steps.{Alters, Reads, Seals, Sets, Shows, Step, Writes, WritesPi, steps_of}
use Rattle.walk_laws.specs.ReadsAs.{listed_in}
use Rattle.run_laws.specs.Records.{Moved, entry_for}

-- A walk that takes the replies of writes and overwrites as they are. Nobody is asked: a listed block fails as its reply says, any other block of a write is accepted, and any other block of a read gets the frame of its entry.

-- the frame that the adapter sends of a frame from the pages
abbrev pub carried_of : List FaultLine → Route → List ℕ → List ℕ
carried_of faults r frame = sent r (altered faults HostToAdapter r.label (mapped_out r frame))

-- What is stored of it nobody reads.
abbrev pub taken_out : List FaultLine → Route → (listed : Option Why) → List ℕ → WayOut
taken_out faults r (Some why) frame = Fails why
taken_out faults r None frame = Stores (carried_of faults r frame) (carried_of faults r frame)

-- a frame from the wire as it lands
abbrev pub landed_of : List FaultLine → Route → List ℕ → List ℕ
landed_of faults r frame = mapped_back r (altered faults AdapterToHost r.label (received r frame))

abbrev pub taken_in : List FaultLine → Route → (listed : Option Why) → List ℕ → WayIn
taken_in faults r (Some why) frame = Stops why
taken_in faults r None frame = Delivers frame (landed_of faults r frame)

abbrev pub frame_in : Option Moved → List ℕ
frame_in None = []
frame_in (Some x) = x.frame

abbrev pub taken_act : Setting → List Sent → Reply → Step → Act ActAnswer
taken_act m es reply (Sets at values) = act_of m (Sets at values)
taken_act m es reply (Shows at) = act_of m (Shows at)
taken_act m es reply (Seals body tuple app rtag) = act_of m (Seals body tuple app rtag)
taken_act m es reply (Writes b app body) = record (write_block m.site (route m b) app body) {
  compute = λ seen. written_by (route m b) (taken_out m.site.faults (route m b) (listed_in reply b.k) (own_frame (route m b) app seen.bytes)) [] (get_or seen.logs 0 []);
}
taken_act m es reply (WritesPi b frame) = record (write_block_of_app m.site (route m b) frame) {
  compute = λ seen. written_by (route m b) (taken_out m.site.faults (route m b) (listed_in reply b.k) seen.bytes) (tuple_after (route m b) (drop m.size seen.bytes)) (get_or seen.logs 0 []);
}
taken_act m es reply (Reads b owner to) = record (read_block m.site (route m b) owner to) {
  compute = λ seen. read_by (route m b) owner (taken_in m.site.faults (route m b) (listed_in reply b.k) (frame_in (entry_for es (route m b).label))) (length to) (length (get_or seen.logs 0 []));
}
taken_act m es reply (Alters dev lba change) = act_of m (Alters dev lba change)

abbrev pub taken_acts : Setting → List Sent → (i : ℕ) → Op → Reply → List (Act ActAnswer)
taken_acts m es i op reply = map (taken_act m es reply) (steps_of m i op)

-- The reply of an overwrite is taken, any other is made.
abbrev pub taken_reply : Op → Reply → List ActAnswer → Reply
taken_reply (Overwrite dev lba change) reply answers = reply
taken_reply op reply answers = reply_of false op answers

-- all acts of the ops from op i on, with their replies
abbrev pub taken_from : Setting → List Sent → (i : ℕ) → List Op → List Reply → List (Act ActAnswer)
taken_from m es i [] replies = []
taken_from m es i (op ∷ ops) replies = taken_acts m es i op (get_or replies 0 Silent) ++ taken_from m es (suc i) ops (drop 1 replies)

-- what this walk replies itself
abbrev pub taken_replies : Setting → List Sent → (i : ℕ) → List Op → List Reply → State → List Reply
taken_replies m es i [] replies s = []
taken_replies m es i (op ∷ ops) replies s =
    let reply = get_or replies 0 Silent in
    let acts = taken_acts m es i op reply in
    taken_reply op reply (plain_tells act tell acts s) ∷ taken_replies m es (suc i) ops (drop 1 replies) (plain act acts s)
