-- What goes back of a command, as it is found from left to right.
use Rattle.std.specs.Prelude.{◌≡◌, ◌<◌, ◌≤◌, ◌^◌, ℕ, suc, ◌+◌, ◌-◌, eqb, if◌then◌else◌, List, [], ◌∷◌, length, map, drop}
use Rattle.std.specs.List.{All}
use Rattle.bio_core.specs.declared.bio.Bio.{Bio}
use Rattle.bio_core.specs.declared.fate.Fate.{Fate}
use Rattle.bio_core.specs.declared.fate.Fate.TheVariants.{Good, Bad, Untouched}
use Rattle.stack_laws.specs.Blocks.{place_of}
use Rattle.merge_queue.specs.Groups.{size, Group, lba_of, put_all}
use Rattle.merge_queue.specs.Index.{Queued, bios_in}
use Rattle.stack_laws.specs.Pieces.{part}
use Rattle.stack_laws.specs.Rests.{front, behind, untouched_runs}
use Rattle.stack_laws.specs.Plan.{Plan, request_at}

-- a bio whose parts can be made: its blocks are in its request, and its addresses have a last one
pub record Divides (p : Plan) (b : Bio) : Type 0 where
  pub within : b.k + b.count ≤ (request_at p (place_of b.op)).count
  pub ends : b.lba + b.count < 2 ^ 64

-- what is behind the first n blocks of a bio
abbrev pub last_part : Plan → ℕ → Bio → Bio
last_part p n b = if eqb n 0 then b else part p b n (b.count - n)

-- how many untouched fates stand in front
abbrev pub untouched_front : List Fate → ℕ
untouched_front [] = 0
untouched_front (Good ∷ fs) = 0
untouched_front ((Bad why) ∷ fs) = 0
untouched_front (Untouched ∷ fs) = suc (untouched_front fs)

-- a group that a queue takes
pub record Ends (g : List Bio) : Type 0 where
  pub some : 0 < length g
  pub ends : lba_of g + size g < 2 ^ 64

-- what goes back from place at on
abbrev pub rests_from : Plan → List Bio → ℕ → List Fate → List Group
rests_from p bs at fs = map (λ r. front p r.count (behind p r.at bs)) (untouched_runs at (drop at fs))

-- The queue takes each group that goes back from place at on, and has room for all.
pub record CanGoBack (p : Plan) (bs : List Bio) (fs : List Fate) (at : ℕ) (queue : Queued) : Type 0 where
  pub ends : All Ends (rests_from p bs at fs)
  pub room : bios_in (put_all (rests_from p bs at fs) queue.groups) ≤ queue.room

-- What goes back from one place up to another was put into the queue, which takes each group that is left.
pub record WentBack (p : Plan) (bs : List Bio) (fs : List Fate) (from to : ℕ) (old new : Queued) : Type 0 where
  pub ends : All Ends (rests_from p bs to fs)
  pub groups : put_all (rests_from p bs to fs) new.groups ≡ put_all (rests_from p bs from fs) old.groups
  pub room : new.room ≡ old.room
