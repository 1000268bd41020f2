use Rattle.std.specs.Prelude.{ℕ, Bool, ◌≡◌, ◌+◌, ◌*◌, ◌<◌, ◌≤◌, true, nat_eq, suc, List, [], ◌∷◌, ◌++◌, length, get_or, IfOk}
use Rattle.std.specs.List.{All, IsDistinct}
use Rattle.page_pool.specs.Places.{total}
use Rattle.range_gate.specs.Cells.{cells_of}
use Rattle.walk_laws.specs.Passed.{Op, Fetch, FetchPi, Fill, Overwrite, Put, Seal, Show, Wait, Write, WritePi, State, act, tell, ActAnswer, fetched_cell, stored_cell, hidden, wire_size, plain_tells}
use Rattle.walk_laws.specs.ScriptWalk.{acts_from, changed, script_replies, script_walk, source_of}
use Rattle.walk_laws.specs.Settings.{Block, Setting, block_of, route}
use Rattle.run_laws.specs.ScriptMoves.{answers_by_moves, fates_of, replies_by_moves, room_of}
use Rattle.pi_tuple.specs.declared.TheConstants.{TUPLE}

-- What is asked of a script so that its moves come to its walk.

-- `fine` says of a cell and a block whether it may be stored there: over a target by its length, over a device that is told by its record always.
-- A frame of the wire's size that is stored is fine where it is stored, and so is what the device leaves where it stores it over a fine block; of a fine block a frame of the wire's size is sent.
pub record Suits (m : Setting) (fine : ℕ → List ℕ → Bool) (b : Block) : Type 0 where
  pub stores : (frame : List ℕ) → length frame ≡ wire_size (route m b) → IfOk (m.site.device.stores (route m b) frame) (λ stored. fine (stored_cell m.site (route m b)) stored ≡ true)
  pub leaves : (old frame : List ℕ) → fine (stored_cell m.site (route m b)) old ≡ true → fine (stored_cell m.site (route m b)) frame ≡ true → fine (stored_cell m.site (route m b)) (m.site.device.leaves (route m b) old frame) ≡ true
  pub sends : (stored : List ℕ) → fine (fetched_cell m.site (route m b)) stored ≡ true → IfOk (m.site.device.sends (route m b) stored) (λ frame. length frame ≡ wire_size (route m b))

abbrev pub AllSuit : Setting → (ℕ → List ℕ → Bool) → (i v n : ℕ) → Type 0
AllSuit m fine i v n = (k : ℕ) → k < n → Suits m fine (block_of i v k)

-- the cells of pages that op i reads are the script's, its lists have its blocks, and no cell is there twice that it writes with others
abbrev pub IsBound : Setting → (fine : ℕ → List ℕ → Bool) → (bytes i : ℕ) → Op → Type 0
IsBound m fine bytes i (Fill seg byte) = Unit {0}
IsBound m fine bytes i (Put page off values) = Unit {0}
IsBound m fine bytes i (Show seg) = All (λ c. c < bytes) (cells_of (seg ∷ []))
IsBound m fine bytes i (Seal n body tuples app rtag) = All (λ c. c < bytes) (cells_of body)
IsBound m fine bytes i (Write v n body app) = All (λ c. c < bytes) (cells_of body) × ((total body ≡ n * m.size) × AllSuit m fine i v n)
IsBound m fine bytes i (Fetch v n body) = All (λ c. c < bytes) (cells_of body) × ((total body ≡ n * m.size) × (IsDistinct nat_eq (cells_of body) × AllSuit m fine i v n))
IsBound m fine bytes i (WritePi v n body tuples) =
    All (λ c. c < bytes) (cells_of body ++ cells_of tuples)
    × ((total body ≡ n * m.size) × ((total tuples ≡ n * TUPLE) × (IsDistinct nat_eq (cells_of body ++ cells_of tuples) × ((m.mode.dix ≡ true) × AllSuit m fine i v n))))
IsBound m fine bytes i (FetchPi v n body tuples) =
    All (λ c. c < bytes) (cells_of body ++ cells_of tuples)
    × ((total body ≡ n * m.size) × ((total tuples ≡ n * TUPLE) × (IsDistinct nat_eq (cells_of body ++ cells_of tuples) × ((m.mode.dix ≡ true) × AllSuit m fine i v n))))
IsBound m fine bytes i (Overwrite dev lba change) = (block : List ℕ) → fine (source_of m.site dev lba change) block ≡ true → fine (m.site.cell dev lba) (changed change block) ≡ true
IsBound m fine bytes i Wait = Unit {0}

abbrev pub AllBound : Setting → (fine : ℕ → List ℕ → Bool) → (bytes i : ℕ) → List Op → Type 0
AllBound m fine bytes i [] = Unit {0}
AllBound m fine bytes i (op ∷ ops) = IsBound m fine bytes i op × AllBound m fine bytes (suc i) ops

-- the private pages and the cells of what is found that all ops take
abbrev pub rooms : Setting → List Op → ℕ
rooms m [] = 0
rooms m (op ∷ ops) = room_of m op + rooms m ops

abbrev pub fates : List Op → ℕ
fates [] = 0
fates (op ∷ ops) = fates_of op + fates ops

-- Ops that are bound to n bytes of pages, with room for their private pages behind these, and a cell for what is found of each block; each stored block is fine.
pub record IsBoundRun (m : Setting) (fine : ℕ → List ℕ → Bool) (n : ℕ) (ops : List Op) (opening : State) : Type 0 where
  pub bound : AllBound m fine n 1 ops
  pub room : n + rooms m ops ≤ length opening.bytes
  pub found : fates ops ≤ length opening.fates
  pub all_fine : (c : ℕ) → fine c (get_or opening.blocks c []) ≡ true

-- The moves come to the walk: pages in front of the private ones, stored blocks and carried frames; replies; and what is answered of each block, with what stands on record of it.
pub record AreTheWalk (m : Setting) (n : ℕ) (ops : List Op) (opening now : State) (answers : List ActAnswer) : Type 0 where
  pub cells : hidden n now ≡ script_walk m ops (hidden n opening)
  pub replies : replies_by_moves m n ops answers ≡ script_replies m ops (hidden n opening)
  pub answers_are : answers_by_moves m n ops answers ≡ plain_tells act tell (acts_from m 1 ops) (hidden n opening)
