-- Bios in chains: each place has the number of the place behind it (as `bi_next` of Linux's bios).
use Rattle.std.specs.Prelude.{ℕ, zero, suc, ◌+◌, eqb, if◌then◌else◌, List, [], ◌∷◌, get_or, set}
use Rattle.bio_core.specs.declared.bio.Bio.{Bio}
use Rattle.bio_core.specs.declared.request.Dir.TheVariants.{Read}

abbrev pub no_bio : Bio
no_bio = record { op = 0; k = 0; count = 0; dev = 0; lba = 0; dir = Read; segs = 0; pi_segs = 0 }

-- the place that is n links behind this one
abbrev pub after : List ℕ → ℕ → ℕ → ℕ
after next at zero = at
after next at (suc n) = after next (get_or next at 0) n

-- this place and those behind it, n in all
abbrev pub path : List ℕ → ℕ → ℕ → List ℕ
path next at zero = []
path next at (suc n) = at ∷ path next (get_or next at 0) n

-- the bios at these places
abbrev pub bios_at : List Bio → List ℕ → List Bio
bios_at bios [] = []
bios_at bios (p ∷ ps) = get_or bios p no_bio ∷ bios_at bios ps

-- these bios put at these places
abbrev pub filled : List ℕ → List Bio → List Bio → List Bio
filled [] run bios = bios
filled (p ∷ ps) [] bios = bios
filled (p ∷ ps) (b ∷ run) bios = filled ps run (set bios p b)

-- how often a place stands in a list
abbrev pub times : ℕ → List ℕ → ℕ
times x [] = 0
times x (p ∷ ps) = (if eqb x p then 1 else 0) + times x ps
