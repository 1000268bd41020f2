-- What goes back into the queue of a command that was done in part: each maximal run of untouched blocks.
use Rattle.std.specs.Prelude.{ℕ, suc, ◌-◌, eqb, nat_le, if◌then◌else◌, List, [], ◌∷◌, map}
use Rattle.merge_queue.specs.Passed.{Bio, Fate, Good, Bad, Untouched}
use Rattle.merge_queue.specs.Groups.{Group}
use Rattle.stack_laws.specs.Plan.{Plan}
use Rattle.stack_laws.specs.Pieces.{part}

-- the first n blocks of these bios, and what is behind them
abbrev pub front : Plan → ℕ → List Bio → List Bio
front p n [] = []
front p n (b ∷ bs) = if nat_le b.count n then b ∷ front p (n - b.count) bs else if eqb n 0 then [] else part p b 0 n ∷ []

abbrev pub behind : Plan → ℕ → List Bio → List Bio
behind p n [] = []
behind p n (b ∷ bs) = if nat_le b.count n then behind p (n - b.count) bs else if eqb n 0 then b ∷ bs else part p b n (b.count - n) ∷ bs

-- count neighbouring places, from place at on
pub record Run : Type 0 where
  pub at : ℕ
  pub count : ℕ

-- one more place in front: it belongs to the run that begins right behind it
abbrev pub with_place : ℕ → List Run → List Run
with_place at [] = record { at = at; count = 1 } ∷ []
with_place at (r ∷ rs) = if eqb r.at (suc at) then record { at = at; count = suc r.count } ∷ rs else record { at = at; count = 1 } ∷ (r ∷ rs)

-- the maximal runs of untouched blocks
abbrev pub untouched_runs : ℕ → List Fate → List Run
untouched_runs at [] = []
untouched_runs at (Good ∷ fs) = untouched_runs (suc at) fs
untouched_runs at (Bad why ∷ fs) = untouched_runs (suc at) fs
untouched_runs at (Untouched ∷ fs) = with_place at (untouched_runs (suc at) fs)

-- what goes back of a command: for each run the parts of its bios
abbrev pub rests : Plan → List Bio → List Fate → List Group
rests p bs fs = map (λ r. front p r.count (behind p r.at bs)) (untouched_runs 0 fs)
