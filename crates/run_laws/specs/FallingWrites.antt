use Rattle.std.specs.Prelude.{ℕ, ◌≡◌, ◌⊎◌, List, ◌∷◌, ◌++◌, length, get_or, Option, Some, None, suc}
use Rattle.page_pool.specs.declared.segs.Seg.{Seg}
use Rattle.page_pool.specs.Cells.{gather}
use Rattle.pi_tuple.specs.declared.checks.Check.{Check}
use Rattle.walk_laws.specs.Passed.{Op, Silent, data_of, tuple_of, State, TheVariantsMedium as Medium}
use Rattle.walk_laws.specs.Past.{steps_from}
use Rattle.walk_laws.specs.PlainMap.{finds_of_app}
use Rattle.walk_laws.specs.Settings.{Block, Setting, block_of}
use Rattle.walk_laws.specs.Steps.{frame_at}
use Rattle.run_laws.specs.FallingReads.{falling_replies}
use Rattle.walk_laws.specs.ReadsAs.{listed_in}
use Rattle.run_laws.specs.StoreFaults.{falling_walk}

-- What comes of a write op where store calls fail, in its reply.

-- Block k of the op that follows `before` is listed for the medium or not at all.
abbrev pub FailsAtMediumAlone : Setting → (falls : Block → Option (List ℕ)) → (before : List Op) → Op → (after : List Op) → State → (k : ℕ) → Type 0
FailsAtMediumAlone m falls before op after opening k =
    let listed = listed_in (get_or (falling_replies m falls 1 (before ++ (op ∷ after)) opening) (length before) Silent) k in (listed ≡ Some Medium) ⊎ (listed ≡ None)

-- what the plain map finds of block k of a write after these ops, with the application's tuple as it stands in the pages when the op begins
abbrev pub finds_then : Setting → (falls : Block → Option (List ℕ)) → (before : List Op) → (v : ℕ) → (body tuples : List Seg) → State → (k : ℕ) → Option Check
finds_then m falls before v body tuples opening k =
    let frame = gather 0 (frame_at m.size body tuples k) (falling_walk m falls (steps_from m 1 before) opening).bytes in
    finds_of_app m (block_of (suc (length before)) v k) (data_of m.size frame) (tuple_of m.size frame)
