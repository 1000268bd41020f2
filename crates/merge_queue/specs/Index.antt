-- A queue as an index of its groups over chains of bios.
use Rattle.std.specs.Prelude.{◌≡◌, ◌<◌, ◌≤◌, ◌^◌, ℕ, ◌+◌, ◌-◌, ◌*◌, nat_lt, if◌then◌else◌, List, [], ◌∷◌, length, get_or, map}
use Rattle.std.specs.List.Sorted.{IsNonDecreasingBy}
use Rattle.bio_core.specs.declared.bio.Bio.{Bio}
use Rattle.bio_core.specs.declared.request.Dir.TheVariants.{Read}
use Rattle.merge_queue.specs.declared.entries.Entry.{Entry}
use Rattle.merge_queue.specs.Chains.{after, bios_at, path, times}
use Rattle.merge_queue.specs.Groups.{Group, lba_of, dir_of, segs_of, pi_segs_of, size}

-- what contracts see of a queue: its groups, and how many bios it has room for
pub record Queued : Type 0 where
  pub groups : List Group
  pub room : ℕ

abbrev pub bios_in : List Group → ℕ
bios_in [] = 0
bios_in (g ∷ gs) = length g + bios_in gs

-- the bios of a group
abbrev pub group_at : List Bio → List ℕ → Entry → Group
group_at bios next e = bios_at bios (path next e.first e.bios)

abbrev pub groups_of : List Entry → List Bio → List ℕ → List Group
groups_of es bios next = map (group_at bios next) es

abbrev pub total : {A : Type 0} → (A → ℕ) → List A → ℕ
total f [] = 0
total f (x ∷ xs) = f x + total f xs

-- how often a group uses a place
abbrev pub use_of : List ℕ → ℕ → Entry → ℕ
use_of next x e = times x (path next e.first e.bios)

-- how often a place is used, by the groups and in the chain of free places
abbrev pub uses : List Entry → List ℕ → (free left : ℕ) → ℕ → ℕ
uses es next free left x = total (use_of next x) es + times x (path next free left)

-- an entry says where its group begins, and its sums
pub record Describes (e : Entry) (g : Group) : Type 0 where
  pub some : 1 ≤ e.bios
  pub bios : length g ≡ e.bios
  pub lba : e.lba ≡ lba_of g
  pub dir : e.dir ≡ dir_of g
  pub blocks : e.blocks ≡ size g
  pub segs : e.segs ≡ segs_of g
  pub pi_segs : e.pi_segs ≡ pi_segs_of g
  pub ends : e.lba + e.blocks < 2 ^ 64
  pub few_blocks : e.blocks ≤ e.bios * 4294967295
  pub few_segs : e.segs ≤ e.bios * 4294967295
  pub few_pi_segs : e.pi_segs ≤ e.bios * 4294967295

-- an entry's group is where the entry says
pub record Stands (bios : List Bio) (next : List ℕ) (e : Entry) : Type 0 where
  pub describes : Describes e (group_at bios next e)
  pub last : e.last ≡ after next e.first (e.bios - 1)

-- the groups stand by first address, and each place below the room is used just once
pub record IsIndex (room : ℕ) (es : List Entry) (bios : List Bio) (next : List ℕ) (free left : ℕ) : Type 0 where
  pub stands : (i : ℕ) (d : Entry) → i < length es → Stands bios next (get_or es i d)
  pub once : (x : ℕ) → uses es next free left x ≤ (if nat_lt x room then 1 else 0)
  pub whole : total (λ e. e.bios) es + left ≡ room
  pub bios_long : length bios ≡ room
  pub next_long : length next ≡ room
  pub rising : IsNonDecreasingBy (λ (e : Entry). e.lba) es
  pub small : room < 2 ^ 32

abbrev pub no_entry : Entry
no_entry = record { lba = 0; dir = Read; bios = 0; first = 0; last = 0; blocks = 0; segs = 0; pi_segs = 0 }

-- the entries at these places
abbrev pub entries_of : List ℕ → List Entry → List Entry
entries_of places entries = map (λ p. get_or entries p no_entry) places

-- the index as it is held: where each group begins, and the place of its first bio, at which its entry is
pub record IsHeld (room : ℕ) (begins places : List ℕ) (entries : List Entry) (bios : List Bio) (next : List ℕ) (free left : ℕ) : Type 0 where
  pub index : IsIndex room (entries_of places entries) bios next free left
  pub begins_of : begins ≡ map (λ (e : Entry). e.lba) (entries_of places entries)
  pub own : (i d : ℕ) → i < length places → (get_or entries (get_or places i d) no_entry).first ≡ get_or places i d
  pub entries_long : length entries ≡ room

-- the entry of two groups that become one
abbrev pub both : Entry → Entry → Entry
both a b = record { lba = a.lba; dir = a.dir; bios = a.bios + b.bios; first = a.first; last = b.last; blocks = a.blocks + b.blocks; segs = a.segs + b.segs; pi_segs = a.pi_segs + b.pi_segs }

-- the sums of two entries fit
pub record Fit (a b : Entry) : Type 0 where
  pub bios : a.bios + b.bios < 2 ^ 32
  pub blocks : a.blocks + b.blocks < 2 ^ 64
  pub segs : a.segs + b.segs < 2 ^ 64
  pub pi_segs : a.pi_segs + b.pi_segs < 2 ^ 64
  pub ends : a.lba + a.blocks < 2 ^ 64
