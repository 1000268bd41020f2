use Rattle.std.specs.Prelude.{ℕ, List, [], ◌∷◌, ◌++◌, codes, decimal}
use Rattle.std.specs.Int.{w16, to_be_bytes}
use Rattle.hex.specs.Hex.{encode_lower}
use Rattle.big_run.specs.declared.counting.OpCounts.{OpCounts}
use Rattle.big_run.specs.declared.running.BigRun.{BigRun}

-- The lines of a run.

-- numbers, each behind a space
abbrev pub numbers : List ℕ → List ℕ
numbers [] = []
numbers (n ∷ ns) = codes " " ++ (decimal n ++ numbers ns)

-- The writes, reads, fills and shows; then the blocks of the writes and of the reads.
abbrev pub counts_text : OpCounts → List ℕ
counts_text c =
    codes "\nops" ++ (numbers (c.writes ∷ c.reads ∷ c.fills ∷ c.shows ∷ []) ++ (codes "\nblocks" ++ numbers (c.blocks_written ∷ c.blocks_read ∷ [])))

-- The blocks that failed, the commands behind those that ask the devices what they are, and the CRC guard of the report.
abbrev pub end_text : BigRun → List ℕ
end_text b =
    codes "\nbad" ++ (numbers (b.bad ∷ []) ++ (codes "\nexchanges" ++ (numbers (b.exchanges ∷ []) ++ (codes "\nsum " ++ (encode_lower (to_be_bytes w16 b.sum) ++ codes "\n")))))

-- the six lines of a run of n ops from a seed
abbrev pub big_text : (n seed : ℕ) → BigRun → List ℕ
big_text n seed b = codes "big" ++ (numbers (n ∷ seed ∷ []) ++ (counts_text b.counts ++ end_text b))
