use Rattle.std.specs.Prelude.{ℕ, ◌≡◌, ◌+◌, ◌^◌, ◌<◌, nat_le, nat_lt, Bool, ◌&&◌, eqb, if◌then◌else◌, List, [], ◌∷◌, length, map, slice_index, slice_index_or, Option, Some, None, find}
use Rattle.std.specs.declared.alloc.Global.{Global}
use Rattle.std.specs.declared.vec.Vec.{Vec}
use Rattle.linear_volume.specs.declared.Linear.{Linear}
use Rattle.linear_volume.specs.Extents.{linear_place}
use Rattle.volume_table.specs.Entries.{IsLength}

-- the inner volumes, each as the list of its extents
abbrev pub tracks_of : List (Vec Linear Global) → List (List Linear)
tracks_of vs = map (λ (v : Vec Linear Global). v.items) vs

abbrev pub end_of : Linear → ℕ
end_of e = e.start + e.len

-- how many blocks an inner volume has
abbrev pub track_len : List Linear → ℕ
track_len [] = 0
track_len (e ∷ rest) = e.len + track_len rest

-- The extent has a length in its range, and its ends fit 64 bits.
pub record IsExtent (e : Linear) : Type 0 where
  pub len : IsLength e.len
  pub end : e.start + e.len < 2 ^ 64
  pub device_end : e.at + e.len < 2 ^ 64

-- The extents have the blocks from this one on, each from where the one before ends.
abbrev pub FollowsFrom : ℕ → List Linear → Type 0
FollowsFrom at [] = Unit {0}
FollowsFrom at (e ∷ rest) = IsExtent e × (e.start ≡ at) × FollowsFrom (at + e.len) rest

-- the extent has this block
abbrev pub is_held : ℕ → Linear → Bool
is_held x e = nat_le e.start x && nat_lt x (end_of e)

abbrev pub place_by : Option Linear → ℕ → ℕ × ℕ
place_by None x = (0, 0)
place_by (Some e) x = linear_place e x

-- where block x of an inner volume lies, by the extent that has it
abbrev pub track_place : List Linear → ℕ → ℕ × ℕ
track_place track x = place_by (find (is_held x) track) x

-- inner volume i
abbrev pub track : List (List Linear) → ℕ → List Linear
track tracks i = slice_index_or tracks i []

-- a number put among ascending ones, once
abbrev pub put : ℕ → List ℕ → List ℕ
put x [] = x ∷ []
put x (y ∷ ys) = if nat_lt y x then y ∷ put x ys else (if eqb y x then y ∷ ys else x ∷ y ∷ ys)

abbrev pub put_ends : List ℕ → List Linear → List ℕ
put_ends xs [] = xs
put_ends xs (e ∷ rest) = put_ends (put (end_of e) xs) rest

abbrev pub put_all : List ℕ → List (List Linear) → List ℕ
put_all xs [] = xs
put_all xs (t ∷ rest) = put_all (put_ends xs t) rest

-- the ends of all extents, ascending, each once
abbrev pub ends : List (List Linear) → List ℕ
ends tracks = put_all [] tracks

-- the number stands at this place
abbrev pub has_at : List ℕ → ℕ → ℕ → Bool
has_at xs place x = nat_lt place (length xs) && eqb (slice_index xs place) x

-- y isn't below x
abbrev pub is_from : ℕ → ℕ → Bool
is_from x y = nat_le x y
