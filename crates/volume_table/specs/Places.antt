use Rattle.std.specs.Prelude.{ℕ, List, Option, Some, None, find, sum_by}
use Rattle.volume_table.specs.declared.entry.Entry.{Entry}
use Rattle.volume_table.specs.Entries.{entry_len, entry_place, entry_run, is_held}

-- how many virtual blocks there are
abbrev pub volume_len : List Entry → ℕ
volume_len entries = sum_by entry_len entries

-- the entry that holds the block
abbrev pub holder : List Entry → ℕ → Option Entry
holder entries v = find (is_held v) entries

abbrev pub place_by : Option Entry → ℕ → ℕ × ℕ
place_by None v = (0, 0)
place_by (Some e) v = entry_place e v

-- where a block of the volume lies: the formula of the entry that holds it
abbrev pub place_in : List Entry → ℕ → ℕ × ℕ
place_in entries v = place_by (holder entries v) v

abbrev pub run_by : Option Entry → ℕ → ℕ
run_by None v = 0
run_by (Some e) v = entry_run e v

-- the run from a block on, by the same entry
abbrev pub run_in : List Entry → ℕ → ℕ
run_in entries v = run_by (holder entries v) v
