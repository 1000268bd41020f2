use Rattle.std.specs.Prelude.{ℕ, suc, ◌+◌, ◌*◌, ◌/◌, Bool, true, false, if◌then◌else◌, List, [], ◌∷◌, ◌++◌, length, take, drop, get_or}
use Rattle.integrity_payload.specs.declared.payload.Owner.{Owner}
use Rattle.integrity_payload.specs.declared.payload.Owner.TheVariants.{Block as OfBlock, App as OfApp}
use Rattle.range_gate.specs.Cells.{in_turn}
use Rattle.walk_laws.specs.Passed.{Op, Fetch, FetchPi, Fill, Overwrite, Put, Seal, Show, Wait, Write, WritePi, Reply, Act, ActAnswer, silent, carry_in, carry_out, MovesJoined as joined, make_tuple, map_back, map_out, settle}
use Rattle.walk_laws.specs.ScriptWalk.{act_of, reply_of}
use Rattle.walk_laws.specs.Settings.{Block, Setting, route}
use Rattle.walk_laws.specs.Steps.{Alters, Reads, Seals, Sets, Shows, Step, Writes, WritesPi, steps_of}
use Rattle.page_pool.specs.declared.TheConstants.{PAGE}
use Rattle.pi_tuple.specs.declared.TheConstants.{TUPLE}

-- The moves of a whole script: what a stack does with each block, move by move.
-- Tuples that the block layer makes or checks lie in private pages behind the script's, each request beginning a fresh one; and each block of a request has a cell for what is found of it.

-- a block by its moves, the act that they are together, and what their answers say together
pub record ByMoves : Type 0 where
  pub moves : List (Act ActAnswer)
  pub whole : Act ActAnswer
  pub join : List ActAnswer → ActAnswer

-- Its admission makes the tuple, its cut maps the tag out, its sending carries the frame, its completion maps the tag back; without tuples in memory it is only sent.
abbrev pub write_moves : Setting → Block → (app : ℕ) → (body own : List ℕ) → (dix : Bool) → List (Act ActAnswer)
write_moves m b app body own true = make_tuple (route m b) app body own ∷ map_out (route m b) own ∷ carry_out m.site (route m b) (body ++ own) ∷ map_back (route m b) own ∷ []
write_moves m b app body own false = carry_out m.site (route m b) body ∷ []

-- which of them carries
abbrev pub carried_by : (dix : Bool) → ℕ
carried_by true = 2
carried_by false = 0

abbrev pub write_pi_moves : Setting → Block → (frame : List ℕ) → List (Act ActAnswer)
write_pi_moves m b frame = map_out (route m b) (drop m.size frame) ∷ carry_out m.site (route m b) frame ∷ map_back (route m b) (drop m.size frame) ∷ []

-- where a read lands: behind its data the block layer's own tuple, where the host has tuples
abbrev pub lands_in : Owner → (dix : Bool) → (to own : List ℕ) → List ℕ
lands_in OfBlock true to own = to ++ own
lands_in OfBlock false to own = to
lands_in OfApp dix to own = to

-- Its sending carries it in, its completion settles it.
abbrev pub read_moves : Setting → Block → Owner → (at : List ℕ) → (fate : ℕ) → List (Act ActAnswer)
read_moves m b owner at fate = carry_in m.site (route m b) at fate ∷ settle (route m b) owner at fate ∷ []

abbrev pub at_once : Act ActAnswer → ByMoves
at_once a = record { moves = a ∷ []; whole = a; join = λ answers. get_or answers 0 silent }

-- a step by its moves, with the cells of its block's own tuple, and the cell of what is found
abbrev pub by_moves : Setting → (own : List ℕ) → (fate : ℕ) → Step → ByMoves
by_moves m own fate (Sets at values) = at_once (act_of m (Sets at values))
by_moves m own fate (Shows at) = at_once (act_of m (Shows at))
by_moves m own fate (Seals body tuple app rtag) = at_once (act_of m (Seals body tuple app rtag))
by_moves m own fate (Writes b app body) = record { moves = write_moves m b app body own m.mode.dix; whole = act_of m (Writes b app body); join = λ answers. get_or answers (carried_by m.mode.dix) silent }
by_moves m own fate (WritesPi b frame) = record { moves = write_pi_moves m b frame; whole = act_of m (WritesPi b frame); join = λ answers. get_or answers 1 silent }
by_moves m own fate (Reads b owner to) = record {
  moves = read_moves m b owner (lands_in owner m.mode.dix to own) fate;
  whole = act_of m (Reads b owner to);
  join = λ answers. joined (get_or answers 0 silent) (get_or answers 1 silent);
}
by_moves m own fate (Alters dev lba change) = at_once (act_of m (Alters dev lba change))

-- tuple k of those that lie from this byte on
abbrev pub own_at : (from k : ℕ) → List ℕ
own_at from k = in_turn (from + TUPLE * k) TUPLE

-- the steps from block k on, of an op whose private pages begin at byte `from`, and its cells of what is found at `fate`
abbrev pub blocks_from : Setting → (from fate k : ℕ) → List Step → List ByMoves
blocks_from m from fate k [] = []
blocks_from m from fate k (step ∷ steps) = by_moves m (own_at from k) (fate + k) step ∷ blocks_from m from fate (suc k) steps

abbrev pub blocks_of : Setting → (from fate i : ℕ) → Op → List ByMoves
blocks_of m from fate i op = blocks_from m from fate 0 (steps_of m i op)

abbrev pub all_moves : List ByMoves → List (Act ActAnswer)
all_moves [] = []
all_moves (b ∷ blocks) = b.moves ++ all_moves blocks

-- what the blocks answer, by the answers of all their moves
abbrev pub joins : List ByMoves → List ActAnswer → List ActAnswer
joins [] answers = []
joins (b ∷ blocks) answers = b.join (take (length b.moves) answers) ∷ joins blocks (drop (length b.moves) answers)

-- the bytes of so many own tuples, in whole pages
abbrev pub room_for : ℕ → ℕ
room_for n = PAGE * ((n + 511) / 512)

-- the bytes of an op's private pages
abbrev pub room_of : Setting → Op → ℕ
room_of m (Fill seg byte) = 0
room_of m (Put page off bytes) = 0
room_of m (Show seg) = 0
room_of m (Seal n body tuples app rtag) = 0
room_of m (Write v n body app) = if m.mode.dix then room_for n else 0
room_of m (Fetch v n body) = if m.mode.dix then room_for n else 0
room_of m (WritePi v n body tuples) = 0
room_of m (FetchPi v n body tuples) = 0
room_of m (Overwrite dev lba change) = 0
room_of m Wait = 0

-- its cells of what is found: one for each block of a request
abbrev pub fates_of : Op → ℕ
fates_of (Fill seg byte) = 0
fates_of (Put page off bytes) = 0
fates_of (Show seg) = 0
fates_of (Seal n body tuples app rtag) = 0
fates_of (Write v n body app) = n
fates_of (Fetch v n body) = n
fates_of (WritePi v n body tuples) = n
fates_of (FetchPi v n body tuples) = n
fates_of (Overwrite dev lba change) = 0
fates_of Wait = 0

-- all moves of the ops from op i on: each op's private pages and cells begin where those of the op before end
abbrev pub moves_from : Setting → (from fate i : ℕ) → List Op → List (Act ActAnswer)
moves_from m from fate i [] = []
moves_from m from fate i (op ∷ ops) = all_moves (blocks_of m from fate i op) ++ moves_from m (from + room_of m op) (fate + fates_of op) (suc i) ops

-- the answers of their blocks, and their replies, by the answers of all moves
abbrev pub answers_from : Setting → (from fate i : ℕ) → List Op → List ActAnswer → List ActAnswer
answers_from m from fate i [] answers = []
answers_from m from fate i (op ∷ ops) answers =
    let blocks = blocks_of m from fate i op in
    let mine = length (all_moves blocks) in
    joins blocks (take mine answers) ++ answers_from m (from + room_of m op) (fate + fates_of op) (suc i) ops (drop mine answers)

abbrev pub replies_from_moves : Setting → (from fate i : ℕ) → List Op → List ActAnswer → List Reply
replies_from_moves m from fate i [] answers = []
replies_from_moves m from fate i (op ∷ ops) answers =
    let blocks = blocks_of m from fate i op in
    let mine = length (all_moves blocks) in
    reply_of (m.fails i) op (joins blocks (take mine answers)) ∷ replies_from_moves m (from + room_of m op) (fate + fates_of op) (suc i) ops (drop mine answers)

-- the script's, with its private pages behind n bytes of pages
abbrev pub script_moves : Setting → (n : ℕ) → List Op → List (Act ActAnswer)
script_moves m n ops = moves_from m n 0 1 ops

abbrev pub replies_by_moves : Setting → (n : ℕ) → List Op → List ActAnswer → List Reply
replies_by_moves m n ops answers = replies_from_moves m n 0 1 ops answers

abbrev pub answers_by_moves : Setting → (n : ℕ) → List Op → List ActAnswer → List ActAnswer
answers_by_moves m n ops answers = answers_from m n 0 1 ops answers
