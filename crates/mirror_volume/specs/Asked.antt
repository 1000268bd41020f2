use Rattle.std.specs.Prelude.{ℕ, zero, suc, ◌≡◌, ◌+◌, ◌-◌, ◌*◌, ◌≤◌, Bool, true, false, not, ◌&&◌, ◌||◌, is_none, is_some, if◌then◌else◌, List, [], ◌∷◌, ◌++◌, drop, length, map, replicate, take, Option, None}
use Rattle.bio_core.specs.declared.fate.Why.{Why}
use Rattle.page_pool.specs.Cells.{flat}
use Rattle.script_text.specs.declared.script.Script.{Script}
use Rattle.mirror_laws.specs.declared.marks.Marks.{Marks}
use Rattle.mirror_volume.specs.declared.piece.Piece.{Piece}
use Rattle.mirror_volume.specs.Inner.{read_script}
use Rattle.mirror_volume.specs.LegRuns.{LegRun, found_by, pool_of, replies_of}

-- The blocks of a read, asked on one leg and then on the other.

-- ---- the stretches of wanted blocks

-- the stretch of blocks right before `at`, if there are any
abbrev pub ended : (at many : ℕ) → List (ℕ × ℕ)
ended at zero = []
ended at (suc n) = (at - suc n, suc n) ∷ []

-- From place `at` on, before which so many wanted blocks stand: of each greatest stretch of wanted blocks its first place and its number of blocks.
abbrev pub stretches_from : (at many : ℕ) → List Bool → List (ℕ × ℕ)
stretches_from at many [] = ended at many
stretches_from at many (true ∷ wanted) = stretches_from (suc at) (suc many) wanted
stretches_from at many (false ∷ wanted) = ended at many ++ stretches_from (suc at) 0 wanted

abbrev pub stretches : List Bool → List (ℕ × ℕ)
stretches wanted = stretches_from 0 0 wanted

-- The stretch has blocks, and they are some of so many.
pub record IsInside (n : ℕ) (stretch : ℕ × ℕ) : Type 0 where
  pub some : 1 ≤ stretch.1
  pub inside : stretch.0 + stretch.1 ≤ n

-- ---- a request for each stretch

-- so many blocks of a piece, from this one on
abbrev pub part_of : Piece → ℕ × ℕ → Piece
part_of p stretch = record p { first = p.first + stretch.0; n = stretch.1; v = p.v + stretch.0 }

-- One that reads some blocks of a piece, on one leg.
pub record IsReadOf (s : Script) (half : ℕ) (p : Piece) (own : Script) : Type 0 where
  pub stretch : ℕ × ℕ
  pub inside : IsInside p.n stretch
  pub on1 : Bool
  pub own_is : own ≡ read_script s half (record (part_of p stretch) { on1 = on1 })

-- Each of these runs is the request of its stretch.
abbrev pub AreOf : (Piece → Script) → Piece → List (ℕ × ℕ) → List LegRun → Type 0
AreOf script p [] [] = Unit {0}
AreOf script p [] (r ∷ runs) = ⊥
AreOf script p (s ∷ ss) [] = ⊥
AreOf script p (s ∷ ss) (r ∷ runs) = (r.own ≡ script (part_of p s)) × AreOf script p ss runs

-- a list with these in the place of as many of its own, from place `at` on
abbrev pub pasted : {X : Type 0} → (at : ℕ) → (part all : List X) → List X
pasted at part all = take at all ++ (part ++ drop (at + length part) all)

-- what was found of each block, where it was asked, and the data that landed
abbrev pub found_after : List (ℕ × ℕ) → List LegRun → List (Option Why) → List (Option Why)
found_after [] runs found = found
found_after (s ∷ ss) [] found = found
found_after (s ∷ ss) (r ∷ runs) found = found_after ss runs (pasted s.0 (found_by s.1 (replies_of r)) found)

abbrev pub bytes_after : (size : ℕ) → List (ℕ × ℕ) → List LegRun → List ℕ → List ℕ
bytes_after size [] runs bytes = bytes
bytes_after size (s ∷ ss) [] bytes = bytes
bytes_after size (s ∷ ss) (r ∷ runs) bytes = bytes_after size ss runs (pasted (s.0 * size) (take (s.1 * size) (flat (pool_of r))) bytes)

-- ---- a read, by its runs on leg 0 and on leg 1

abbrev pub fresh_on0 : List Marks → List Bool
fresh_on0 marks = map (λ (k : Marks). k.leg0) marks

-- what leg 0 found of the blocks that are fresh there
abbrev pub first_listed : List Marks → List (Option Why) → List (Option Why)
first_listed [] found = []
first_listed (k ∷ marks) [] = []
first_listed (k ∷ marks) (why ∷ found) = (if k.leg0 then why else None) ∷ first_listed marks found

-- Leg 1 is asked for what is fresh there, and stale on leg 0 or not delivered by it.
abbrev pub rest_wanted : List Marks → List (Option Why) → List Bool
rest_wanted [] found = []
rest_wanted (k ∷ marks) [] = []
rest_wanted (k ∷ marks) (why ∷ found) = (k.leg1 && (not k.leg0 || is_some why)) ∷ rest_wanted marks found

-- What leg 1 delivers isn't listed any more; what it alone was asked for is listed with its finding.
abbrev pub last_listed : List Marks → (wanted : List Bool) → (listed found : List (Option Why)) → List (Option Why)
last_listed (k ∷ marks) (w ∷ wanted) (old ∷ listed) (why ∷ found) = (if w && (not k.leg0 || is_none why) then why else old) ∷ last_listed marks wanted listed found
last_listed _ _ _ _ = []

-- What a read of a piece comes to, on blocks with these marks: what each block is listed with, and the data.
pub record ReadBy (s : Script) (half : ℕ) (p : Piece) (marks : List Marks) (runs0 runs1 : List LegRun) (listed : List (Option Why)) (bytes : List ℕ) : Type 0 where
  pub found0 : List (Option Why)
  pub found1 : List (Option Why)
  pub on0 : AreOf (read_script s half) p (stretches (fresh_on0 marks)) runs0
  pub on1 : AreOf (read_script s half) (record p { on1 = true }) (stretches (rest_wanted marks found0)) runs1
  pub found0_is : found0 ≡ found_after (stretches (fresh_on0 marks)) runs0 (replicate p.n None)
  pub found1_is : found1 ≡ found_after (stretches (rest_wanted marks found0)) runs1 found0
  pub listed_is : listed ≡ last_listed marks (rest_wanted marks found0) (first_listed marks found0) found1
  pub bytes_are : bytes ≡ bytes_after s.block (stretches (rest_wanted marks found0)) runs1 (bytes_after s.block (stretches (fresh_on0 marks)) runs0 (replicate (p.n * s.block) 0))

-- These runs are those of a read of it, on leg 0 and then on leg 1.
pub record ReadOnBoth (s : Script) (half : ℕ) (p : Piece) (marks : List Marks) (runs : List LegRun) (listed : List (Option Why)) (bytes : List ℕ) : Type 0 where
  pub runs0 : List LegRun
  pub runs1 : List LegRun
  pub runs_are : runs ≡ runs0 ++ runs1
  pub read : ReadBy s half p marks runs0 runs1 listed bytes
