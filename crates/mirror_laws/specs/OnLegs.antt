use Rattle.std.specs.Prelude.{ℕ, ◌+◌, ◌*◌, Bool, true, false, if◌then◌else◌, List, [], ◌∷◌, ◌++◌, drop, get_or, map, replicate, set, take, Option, Some, None, Result, Ok, Err}
use Rattle.bio_core.specs.declared.fate.Why.{Why}
use Rattle.block_path.specs.Blocks.{stored_cell}
use Rattle.walk_laws.specs.Past.{Brought}
use Rattle.walk_laws.specs.Settings.{Block, Setting, route}
use Rattle.walk_laws.specs.Steps.{each_from}
use Rattle.mirror_laws.specs.Mirror.{marked, marks_of, neither}
use Rattle.mirror_laws.specs.declared.marks.Marks.{Marks}
use Rattle.mirror_laws.specs.Repair.{reading, writing}

-- A request of the mirror leg by leg: all its blocks on leg 0, and then on leg 1.
-- Where no shift is scheduled, and each virtual block has a place of its own, this is the mirror's walk, in which each block goes to both legs before the next one does.

-- n blocks of op `op` on a leg, from the one with this label and this virtual block on
abbrev pub blocks_on : (op k virt n : ℕ) → List Block
blocks_on op k virt n = each_from 0 n (λ j. record { op = op; k = k + j; virt = virt + j })

-- the data of each of n blocks of this size, with one application tag
abbrev pub brought_each : (size app n : ℕ) → List ℕ → List Brought
brought_each size app n bytes = each_from 0 n (λ j. record { body = take size (drop (j * size) bytes); app = app })

abbrev pub why_of : Result (List ℕ) Why → Option Why
why_of (Ok frame) = None
why_of (Err why) = Some why

-- where a frame is accepted, there stands what the device leaves of it over what stood there
abbrev pub stored_at : (cell : ℕ) → (leaves : List ℕ → List ℕ → List ℕ) → Result (List ℕ) Why → List (List ℕ) → List (List ℕ)
stored_at c leaves (Ok stored) blocks = set blocks c (leaves (get_or blocks c []) stored)
stored_at c leaves (Err why) blocks = blocks

-- the data that a read lands: of the frame those of the block, and zeros where none is delivered
abbrev pub landed_by : (size : ℕ) → Result (List ℕ) Why → List ℕ
landed_by size (Ok frame) = take size frame
landed_by size (Err why) = replicate size 0

module _ (m : Setting) where
  -- The blocks are written one after another: what is found of each, and the stored blocks afterwards. Whether one is accepted doesn't depend on what is stored.
  abbrev pub whys_written : List Block → List Brought → List (Option Why)
  whys_written [] es = []
  whys_written (b ∷ bs) [] = []
  whys_written (b ∷ bs) (e ∷ es) = why_of (writing m b e) ∷ whys_written bs es

  abbrev pub written : List Block → List Brought → List (List ℕ) → List (List ℕ)
  written [] es blocks = blocks
  written (b ∷ bs) [] blocks = blocks
  written (b ∷ bs) (e ∷ es) blocks = written bs es (stored_at (stored_cell m.site (route m b)) (m.site.device.leaves (route m b)) (writing m b e) blocks)

  -- The blocks are read one after another: what is found of each, and the data that land. A read changes nothing that is stored.
  abbrev pub whys_read : List Block → List (List ℕ) → List (Option Why)
  whys_read bs blocks = map (λ b. why_of (reading m b blocks)) bs

  abbrev pub data_read : List Block → List (List ℕ) → List ℕ
  data_read [] blocks = []
  data_read (b ∷ bs) blocks = landed_by m.size (reading m b blocks) ++ data_read bs blocks

-- ---- a write, by what was found on leg 0 and on leg 1 of each block, from virtual block v on

abbrev pub marks_written : (v : ℕ) → List (Option Why) → List (Option Why) → List Marks → List Marks
marks_written v [] others marks = marks
marks_written v (why ∷ whys) [] marks = marks
marks_written v (why ∷ whys) (other ∷ others) marks = marks_written (v + 1) whys others (set marks v (marked why other (marks_of marks v)))

abbrev pub listed_written : List (Option Why) → List (Option Why) → List (Option Why)
listed_written [] others = []
listed_written (why ∷ whys) [] = []
listed_written (why ∷ whys) (other ∷ others) = neither why other ∷ listed_written whys others

-- ---- a read of a block, by its marks and by what comes of it on leg 0 and on leg 1

abbrev pub or_other : (fresh1 : Bool) → (first other : Result (List ℕ) Why) → Result (List ℕ) Why
or_other fresh1 (Ok frame) other = Ok frame
or_other true (Err why) (Ok frame) = Ok frame
or_other true (Err why) (Err again) = Err why
or_other false (Err why) other = Err why

-- The first leg that is fresh is tried first, and where it doesn't deliver the other one, if that is fresh.
abbrev pub come : Marks → (on0 on1 : Result (List ℕ) Why) → Result (List ℕ) Why
come marks on0 on1 = if marks.leg0 then or_other marks.leg1 on0 on1 else on1

module _ (m : Setting) (half : ℕ) where
  -- what comes of n blocks of a read of op i, from the one at place k and virtual block v on; the request has `count` blocks
  abbrev pub comes_from : (i count v k n : ℕ) → List Marks → List (List ℕ) → List (Result (List ℕ) Why)
  comes_from i count v k n marks blocks =
      each_from k n (λ j. come (marks_of marks (v + j)) (reading m (record { op = i; k = j; virt = v + j }) blocks) (reading m (record { op = i; k = count + j; virt = half + (v + j) }) blocks))

abbrev pub all_landed : (size : ℕ) → List (Result (List ℕ) Why) → List ℕ
all_landed size [] = []
all_landed size (r ∷ rs) = landed_by size r ++ all_landed size rs
