use Rattle.std.specs.Prelude.{ℕ, ◌+◌, ◌^◌, Bool, true, false, ◌||◌, ◌&&◌, eqb, nat_le, nat_lt, if◌then◌else◌, List, [], ◌∷◌, length, map, Option, Some, None, Result, Ok, Err}
use Rattle.std.specs.List.{list_all, list_any}
use Rattle.linear_volume.specs.declared.Linear.{Linear}
use Rattle.volume_table.specs.declared.entry.Entry.{Entry}
use Rattle.volume_tree.specs.declared.TreeFault.{TreeFault}
use Rattle.volume_tree.specs.declared.TreeFault.TheVariants.{BadLength, Unaligned, TooMany as TooManyEnds, Memory as NoMemory}
use Rattle.volume_tree.specs.Trees.{expanded, tree_fault}
use Rattle.script_lines.specs.declared.kind.ScriptKind.{ScriptKind}
use Rattle.script_lines.specs.declared.kind.ScriptKind.TheVariants.{TooMany, BadRange}
use Rattle.script_text.specs.declared.trees.Inner.{Inner}
use Rattle.volume_table.specs.declared.TheConstants.{MOST_LENGTH}

-- an extent of an inner volume
abbrev pub InnerExtent : Type 0
InnerExtent = Inner

-- the extents of an inner volume, the first of which begins at this block
abbrev pub track_from : (start volume : ℕ) → List Inner → List Linear
track_from start volume [] = []
track_from start volume (i ∷ is) =
    if eqb i.volume volume then record { start = start; len = i.len; dev = i.dev; at = i.at } ∷ track_from (start + i.len) volume is
    else track_from start volume is

-- an extent of the inner volume ends past 64 bits
abbrev pub is_past : ℕ → Inner → Bool
is_past volume i = eqb i.volume volume && nat_le (2 ^ 64) (i.at + i.len)

abbrev pub is_none : List Linear → Bool
is_none [] = true
is_none (e ∷ es) = false

-- The inner volume isn't there, or ends past 64 bits somewhere.
abbrev pub is_bad_volume : List Inner → ℕ → Bool
is_bad_volume inner volume = is_none (track_from 0 volume inner) || list_any (is_past volume) inner

abbrev pub tracks_in : List Inner → List ℕ → List (List Linear)
tracks_in inner volumes = map (λ volume. track_from 0 volume inner) volumes

abbrev pub as_kind : Option TreeFault → Option ScriptKind
as_kind None = None
as_kind (Some BadLength) = Some BadRange
as_kind (Some Unaligned) = Some BadRange
as_kind (Some TooManyEnds) = Some TooMany
as_kind (Some NoMemory) = None

-- the first fault of an `over` line
abbrev pub over_fault : List Inner → (start len chunk : ℕ) → List ℕ → Option ScriptKind
over_fault inner start len chunk volumes =
    if nat_lt 8 (length volumes) then Some TooMany
    else (if nat_le (2 ^ 64) (start + len) then Some BadRange
    else (if list_any (is_bad_volume inner) volumes then Some BadRange
    else as_kind (tree_fault len chunk (tracks_in inner volumes))))

abbrev pub unless_fault : Option ScriptKind → List Entry → Result (List Entry) ScriptKind
unless_fault None entries = Ok entries
unless_fault (Some k) entries = Err k

-- its entries, or that fault
abbrev pub entries_over : List Inner → (start len chunk : ℕ) → List ℕ → Result (List Entry) ScriptKind
entries_over inner start len chunk volumes = unless_fault (over_fault inner start len chunk volumes) (expanded start chunk (tracks_in inner volumes))

-- 1 to 1,048,576 blocks
abbrev pub is_length : Inner → Bool
is_length i = nat_le 1 i.len && nat_le i.len MOST_LENGTH

abbrev pub are_lengths : List Inner → Bool
are_lengths inner = list_all is_length inner
