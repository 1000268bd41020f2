-- A script that is bound, over what stands on record.
use Rattle.std.proofs.Common.{◌≤◌, ℕ, suc, ◌+◌, Bool, true, List, [], ◌∷◌, length, refl, subst}
use Rattle.block_path.specs.Acts.{State}
use Rattle.block_path.specs.Blocks.{Sent}
use Rattle.block_path.specs.Routes.{told_by}
use Rattle.run_laws.specs.Passed.{Setting, block_of, route, Op, Fetch, FetchPi, Fill, Overwrite, Put, Seal, Show, Wait, Write, WritePi}
use Rattle.run_laws.specs.ToldRun.{came_by, told}
use Rattle.run_laws.specs.BoundRun.{AllBound, AllSuit, IsBound, IsBoundRun}
use Rattle.run_laws.proofs.AtTarget.{fine_always}
use Rattle.stack_walk_laws.specs.Finished.{FramesFit}
use Rattle.stack_walk_laws.proofs.OverDevice.{same_rooms}

module _ (m : Setting) (es : List Sent) (fit : FramesFit m es) where
  pub suit_over : (i v n : ℕ) → AllSuit (told m es) (λ c block. true) i v n
  suit_over i v n k l = record { stores = λ frame e. fine_always (came_by es (route m (block_of i v k)).label); leaves = λ before frame e f. refl; sends = λ stored e. fit (block_of i v k) }

  op_over : (fine : ℕ → List ℕ → Bool) (bytes i : ℕ) (op : Op) → IsBound m fine bytes i op → IsBound (told m es) (λ c block. true) bytes i op
  op_over fine bytes i (Fill seg byte) h = tt
  op_over fine bytes i (Put page off values) h = tt
  op_over fine bytes i (Show seg) h = h
  op_over fine bytes i (Seal n body tuples app rtag) h = h
  op_over fine bytes i (Write v n body app) h = (h.0, (h.1.0, suit_over i v n))
  op_over fine bytes i (Fetch v n body) h = (h.0, (h.1.0, (h.1.1.0, suit_over i v n)))
  op_over fine bytes i (WritePi v n body tuples) h = (h.0, (h.1.0, (h.1.1.0, (h.1.1.1.0, (h.1.1.1.1.0, suit_over i v n)))))
  op_over fine bytes i (FetchPi v n body tuples) h = (h.0, (h.1.0, (h.1.1.0, (h.1.1.1.0, (h.1.1.1.1.0, suit_over i v n)))))
  op_over fine bytes i (Overwrite dev lba change) h = λ block e. refl
  op_over fine bytes i Wait h = tt

  all_over : (fine : ℕ → List ℕ → Bool) (bytes i : ℕ) (ops : List Op) → AllBound m fine bytes i ops → AllBound (told m es) (λ c block. true) bytes i ops
  all_over fine bytes i [] h = tt
  all_over fine bytes i (op ∷ ops) h = (op_over fine bytes i op h.0, all_over fine bytes (suc i) ops h.1)

  pub bound_over : (fine : ℕ → List ℕ → Bool) (n : ℕ) (ops : List Op) (opening : State) → IsBoundRun m fine n ops opening → IsBoundRun (told m es) (λ c block. true) n ops opening
  bound_over fine n ops opening h = record {
    bound = all_over fine n 1 ops h.bound;
    room = subst (λ r. n + r ≤ length opening.bytes) (same_rooms m (told_by (came_by es)) ops) h.room;
    found = h.found;
    all_fine = λ c. refl;
  }
