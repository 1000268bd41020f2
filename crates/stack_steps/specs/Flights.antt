-- The commands in flight, over their bios and fates.
use Rattle.std.specs.Prelude.{◌≡◌, ◌<◌, ◌≤◌, ◌^◌, ℕ, zero, suc, ◌+◌, ◌-◌, ⊤, false, List, [], ◌∷◌, ◌++◌, length, take, drop}
use Rattle.std.specs.Vec.{vec_capacity}
use Rattle.std.specs.declared.alloc.Global.{Global}
use Rattle.std.specs.declared.vec.Vec.{Vec}
use Rattle.bio_core.specs.declared.bio.Bio.{Bio}
use Rattle.bio_core.specs.declared.fate.Fate.{Fate}
use Rattle.stack_laws.specs.View.{Command}
use Rattle.stack_steps.specs.declared.flight.Flight.{Flight}

-- what contracts see: the commands in the order in which they were sent, and how many bios and fates there is room for
pub record Flights : Type 0 where
  pub commands : List Command
  pub room : ℕ

abbrev pub shown : List Flight → List Bio → List Fate → List Command
shown [] bs fs = []
shown (e ∷ es) bs fs = record { dev = e.dev; bios = take e.bios bs; fates = take e.blocks fs; completed = false } ∷ shown es (drop e.bios bs) (drop e.blocks fs)

abbrev pub bios_of : List Flight → ℕ
bios_of [] = 0
bios_of (e ∷ es) = e.bios + bios_of es

abbrev pub fates_of : List Flight → ℕ
fates_of [] = 0
fates_of (e ∷ es) = e.blocks + fates_of es

-- each command begins where those before it end, the first at these places
abbrev pub Begin : ℕ → ℕ → List Flight → Type 0
Begin bio fate [] = ⊤
Begin bio fate (e ∷ es) = (e.first_bio ≡ bio) × ((e.first_fate ≡ fate) × Begin (bio + e.bios) (fate + e.blocks) es)

pub record AreFlights (room : ℕ) (es : List Flight) (bs : List Bio) (fs : List Fate) : Type 0 where
  pub bios : bios_of es ≡ length bs
  pub fates : fates_of es ≡ length fs
  pub begin : Begin 0 0 es
  pub few : length es ≤ room
  pub few_bios : length bs ≤ room
  pub few_fates : length fs ≤ room
  pub small : room < 2 ^ 32

-- The lists of all commands have room for as many.
abbrev pub HaveRoom : ℕ → Vec Flight Global → Vec Bio Global → Vec Fate Global → Type 0
HaveRoom room commands bios fates = (room ≤ vec_capacity commands) × ((room ≤ vec_capacity bios) × (room ≤ vec_capacity fates))

-- the commands, where those from a place up to another begin this many bios and fates earlier
abbrev pub earlier : (from to bios fates : ℕ) → List Flight → List Flight
earlier from to n m [] = []
earlier from zero n m (e ∷ es) = e ∷ es
earlier zero (suc to) n m (e ∷ es) = record { dev = e.dev; bios = e.bios; blocks = e.blocks; first_bio = e.first_bio - n; first_fate = e.first_fate - m } ∷ earlier zero to n m es
earlier (suc from) (suc to) n m (e ∷ es) = e ∷ earlier from to n m es

-- the bios and fates of commands
abbrev pub bios_in_flight : List Command → ℕ
bios_in_flight [] = 0
bios_in_flight (c ∷ cs) = length c.bios + bios_in_flight cs

abbrev pub fates_in_flight : List Command → ℕ
fates_in_flight [] = 0
fates_in_flight (c ∷ cs) = length c.fates + fates_in_flight cs

-- the fates without n of them
abbrev pub cut_out : {A : Type 0} → ℕ → ℕ → List A → List A
cut_out at n xs = take at xs ++ drop (at + n) xs
