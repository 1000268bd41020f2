-- A footprint as a gate keeps it: its segments without the empty ones, by page and offset.
use Rattle.std.specs.Prelude.{◌≡◌, ◌<◌, ◌≤◌, ℕ, ◌+◌, ◌*◌, Bool, true, false, ◌&&◌, ◌||◌, nat_lt, max, min, if◌then◌else◌, ◌⊎◌, List, [], ◌∷◌, Option, Some, None}
use Rattle.std.specs.List.{list_any}
use Rattle.page_pool.specs.declared.segs.Seg.{Seg}
use Rattle.page_pool.specs.Places.{shares}
use Rattle.range_gate.specs.declared.footprint.Reach.{Reach}
use Rattle.range_gate.specs.declared.footprint.Touch.{Touch}

pub record KeptPrint : Type 0 where
  pub alone : Bool
  pub blocks : Option Reach
  pub reads : List Seg
  pub writes : List Seg

-- some segment of the one list shares a byte with one of the other
abbrev pub any_shared : List Seg → List Seg → Bool
any_shared ss ts = list_any (λ s. list_any (shares s) ts) ss

-- two ranges of blocks share one, and one of them is written
abbrev pub block_shared : Option Reach → Option Reach → Bool
block_shared None q = false
block_shared (Some r) None = false
block_shared (Some r) (Some s) = (r.writes || s.writes) && nat_lt (max r.first s.first) (min (r.first + r.count) (s.first + s.count))

abbrev pub byte_shared : KeptPrint → KeptPrint → Bool
byte_shared p q = any_shared p.writes q.writes || (any_shared p.writes q.reads || any_shared p.reads q.writes)

abbrev pub clash : KeptPrint → KeptPrint → Bool
clash p q = (p.alone || q.alone) || (block_shared p.blocks q.blocks || byte_shared p q)

abbrev pub is_same : Bool → Bool → Bool
is_same true b = b
is_same false true = false
is_same false false = true

abbrev pub is_chosen : Bool → Touch → Bool
is_chosen writes t = is_same t.writes writes && nat_lt 0 t.seg.len

-- the segments that hold a byte, of the touches that write or of those that don't
abbrev pub chosen : Bool → List Touch → List Seg
chosen writes [] = []
chosen writes (t ∷ ts) = if is_chosen writes t then t.seg ∷ chosen writes ts else chosen writes ts

-- a segment doesn't begin before another
abbrev pub NotAfter : Seg → Seg → Type 0
NotAfter s t = (s.page < t.page) ⊎ ((s.page ≡ t.page) × (s.off ≤ t.off))

abbrev pub Leads : Seg → List Seg → Type 0
Leads s [] = Unit {0}
Leads s (t ∷ ts) = NotAfter s t

-- segments with bytes, by page and offset
abbrev pub Rises : List Seg → Type 0
Rises [] = Unit {0}
Rises (s ∷ ss) = (0 < s.len) × Leads s ss × Rises ss

-- where a segment begins, in one row of all pages
abbrev pub begins : Seg → ℕ
begins s = s.page * 4294967296 + s.off

-- a segment that holds a byte, as a program can name it
abbrev pub IsSound : Seg → Type 0
IsSound s = (0 < s.len) × (s.off < 4294967296)
