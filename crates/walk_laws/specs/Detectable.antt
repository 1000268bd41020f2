use Rattle.std.specs.Prelude.{ℕ, Bool, true, false, ◌&&◌, ◌||◌, not, eqb, List, [], ◌∷◌, get_or, Option, Some, None}
use Rattle.pi_guard.specs.Guards.{crc, guard_of}
use Rattle.pi_tuple.specs.Finds.{is_escaped}
use Rattle.pi_tuple.specs.Tuples.{ref_tag}
use Rattle.pi_tuple.specs.declared.tuple.Tuple.{Tuple}
use Rattle.pi_tuple.specs.declared.checks.Check.{Check}
use Rattle.page_pool.specs.Cells.{gather}
use Rattle.fault_schedule.specs.Altered.{altered}
use Rattle.fault_schedule.specs.declared.fault.Crossing.{Crossing}
use Rattle.fault_schedule.specs.declared.fault.Crossing.TheVariants.{AdapterToHost, AdapterToTarget, HostToAdapter, MediumToTarget, TargetToAdapter, TargetToMedium}
use Rattle.block_path.specs.Passed.{data_of, tuple_of, found_in}
use Rattle.block_path.specs.Acts.{State, act}
use Rattle.block_path.specs.Blocks.{fetched_cell, own_frame, stored_cell}
use Rattle.block_path.specs.Routes.{host_type, passage, stored_lba, wire_lba}
use Rattle.block_path.specs.WayIn.{adapter_finds_in, mapped_back, owner_finds, received}
use Rattle.block_path.specs.WayOut.{Fails, Refuses, Stores, WayOut, adapter_finds_out, mapped_out, sent, way_out}
use Rattle.walk_laws.specs.FirstLayer.{AtAdapter, AtOwner, AtTarget, Layer, has_flip, has_shift, is_misdirected, is_served, is_stored_whole, loses, tears}
use Rattle.walk_laws.specs.PlainMap.{as_expected}
use Rattle.walk_laws.specs.ScriptWalk.{act_of}
use Rattle.walk_laws.specs.Settings.{Block, Setting, route}
use Rattle.walk_laws.specs.Steps.{Alters, Reads, Seals, Sets, Shows, Step, Writes, WritesPi}

-- Which faults tuples can show: in type 1 with tuples that are passed and protect field 001b. Two flips that cancel each other, an application tag altered alone where nobody asks for it, a copy of a block onto itself, and a write of which the medium stores nothing can't be shown. One of which it stores a part, or which it stores elsewhere, and a block that it fails, are left out here.

-- the frame after a crossing
abbrev pub crossed : Setting → Block → Crossing → List ℕ → List ℕ
crossed m b at frame = altered m.site.faults at (route m b).label frame

-- guard and reference tag are these
abbrev pub bears : Tuple → (guard rtag : ℕ) → Bool
bears t guard rtag = eqb t.guard guard && eqb t.rtag rtag

-- the guard is right, and the tag is one of those that the block has on its way: the virtual block's, the address's, or that of the address after a shift
abbrev pub bears_some : Setting → Block → Tuple → ℕ → Bool
bears_some m b t guard = bears t guard (ref_tag b.virt) || (bears t guard (ref_tag (route m b).lba) || bears t guard (ref_tag (wire_lba m.site.faults (route m b))))

-- the guard that a frame has at a crossing: the host's on its side of the adapter
abbrev pub guard_at : Setting → Crossing → List ℕ → ℕ
guard_at m HostToAdapter bytes = guard_of m.mode.kind bytes
guard_at m AdapterToTarget bytes = crc bytes
guard_at m TargetToMedium bytes = crc bytes
guard_at m MediumToTarget bytes = crc bytes
guard_at m TargetToAdapter bytes = crc bytes
guard_at m AdapterToHost bytes = guard_of m.mode.kind bytes

-- an adapter or an owner checks after this crossing, and asks for the application tag too
abbrev pub asks_app : Crossing → Bool
asks_app HostToAdapter = true
asks_app AdapterToTarget = false
asks_app TargetToMedium = false
asks_app MediumToTarget = false
asks_app TargetToAdapter = true
asks_app AdapterToHost = true

-- no escape, and another guard, or none of the block's tags, or where it is asked for an application tag that isn't expected
abbrev pub is_foreign : Setting → Block → Crossing → (guard : ℕ) → Tuple → Bool
is_foreign m b at guard t = not (is_escaped (host_type m.ty) t) && not (bears_some m b t guard && (not (asks_app at) || as_expected m t.app))

-- A frame that a flip alters at this crossing is foreign after it.
abbrev pub shows : Setting → Block → Crossing → List ℕ → Bool
shows m b at frame =
    not (has_flip m b at) || is_foreign m b at (guard_at m at (data_of m.size (crossed m b at frame))) (tuple_of m.size (crossed m b at frame))

-- asked only of a frame in which nothing was found
abbrev pub if_passed : Option Check → Bool → Bool
if_passed None rest = rest
if_passed (Some check) rest = true

-- the crossings of a frame that a write supplies, as far as it comes
abbrev pub shows_at_medium : Setting → Block → List ℕ → Bool
shows_at_medium m b frame = if_passed (found_in (passage m.site.faults (route m b)) frame) (shows m b TargetToMedium frame)

abbrev pub shows_on_wire : Setting → Block → List ℕ → Bool
shows_on_wire m b frame =
    if_passed (adapter_finds_out (route m b) frame) (shows m b AdapterToTarget (sent (route m b) frame) && shows_at_medium m b (crossed m b AdapterToTarget (sent (route m b) frame)))

abbrev pub shows_out : Setting → Block → List ℕ → Bool
shows_out m b frame = shows m b HostToAdapter (mapped_out (route m b) frame) && shows_on_wire m b (crossed m b HostToAdapter (mapped_out (route m b) frame))

-- the frame of a stored block that arrives at a layer
abbrev pub arrives : Setting → Block → List ℕ → Layer → List ℕ
arrives m b stored AtTarget = crossed m b MediumToTarget stored
arrives m b stored AtAdapter = crossed m b TargetToAdapter (crossed m b MediumToTarget stored)
arrives m b stored AtOwner = mapped_back (route m b) (crossed m b AdapterToHost (received (route m b) (crossed m b TargetToAdapter (crossed m b MediumToTarget stored))))

-- what the layer finds in the frame that arrives there
abbrev pub found : Setting → Block → List ℕ → Layer → Option Check
found m b stored AtTarget = found_in (passage m.site.faults (route m b)) (arrives m b stored AtTarget)
found m b stored AtAdapter = adapter_finds_in (route m b) (arrives m b stored AtAdapter)
found m b stored AtOwner = owner_finds (route m b) (arrives m b stored AtOwner)

-- Under a shift on the medium the stored block that is fetched isn't one of the address that was meant.
abbrev pub is_not_meant : Setting → Block → List ℕ → Bool
is_not_meant m b stored = not (has_shift m b MediumToTarget) || not (bears (tuple_of m.size stored) (crc (data_of m.size stored)) (ref_tag (wire_lba m.site.faults (route m b))))

-- the crossings of a stored block, as far as it comes
abbrev pub shows_in : Setting → Block → List ℕ → Bool
shows_in m b stored =
    is_not_meant m b stored
    && (shows m b MediumToTarget stored && if_passed (found m b stored AtTarget)
    (shows m b TargetToAdapter (arrives m b stored AtTarget) && if_passed (found m b stored AtAdapter)
    (shows m b AdapterToHost (received (route m b) (arrives m b stored AtAdapter)))))

-- a stored block that an overwrite left: no escape, with another guard than that of its data, or another tag than its address's
abbrev pub is_spoilt : Setting → (lba : ℕ) → List ℕ → Bool
is_spoilt m lba stored = not (is_escaped (host_type m.ty) (tuple_of m.size stored)) && not (bears (tuple_of m.size stored) (crc (data_of m.size stored)) (ref_tag lba))

abbrev pub step_shows : Setting → Step → State → Bool
step_shows m (Sets at values) s = true
step_shows m (Shows at) s = true
step_shows m (Seals body tuple app rtag) s = true
step_shows m (Writes b app body) s = is_stored_whole m b && shows_out m b (own_frame (route m b) app (gather 0 body s.bytes))
step_shows m (WritesPi b frame) s = is_stored_whole m b && shows_out m b (gather 0 frame s.bytes)
step_shows m (Reads b owner to) s = is_served m b && shows_in m b (get_or s.blocks (fetched_cell m.site (route m b)) [])
step_shows m (Alters dev lba change) s = is_spoilt m lba (get_or (act (act_of m (Alters dev lba change)) s).blocks (m.site.cell dev lba) [])

-- Each fault of the walk can be shown.
abbrev pub detectable : Setting → List Step → State → Bool
detectable m [] s = true
detectable m (step ∷ steps) s = step_shows m step s && detectable m steps (act (act_of m step) s)

-- ---- Runs in which the medium fails too, or lies about a write: it loses or misdirects blocks, which no tuple shows before they are read.

-- The frame is spoilt that a stored block leaves at an address.
abbrev pub is_left_spoilt : Setting → Block → (old : List ℕ) → WayOut → Bool
is_left_spoilt m b old (Fails why) = true
is_left_spoilt m b old (Refuses why) = true
is_left_spoilt m b old (Stores carried stored) = is_spoilt m (stored_lba m.site.faults (route m b)) (m.site.device.leaves (route m b) old stored)

-- A block of which a part is stored can be right by chance, and so can one that is misdirected and altered.
abbrev pub is_in_doubt : Setting → Block → Bool
is_in_doubt m b = not (loses m b) && (tears m b || (is_misdirected m b && has_flip m b TargetToMedium))

-- of a frame that a write supplies, over this old block
abbrev pub accounts_out : Setting → Block → (old frame : List ℕ) → Bool
accounts_out m b old frame = shows_out m b frame && (not (is_in_doubt m b) || is_left_spoilt m b old (way_out m.site.faults m.site.device (route m b) frame))

abbrev pub step_accounts : Setting → Step → State → Bool
step_accounts m (Sets at values) s = true
step_accounts m (Shows at) s = true
step_accounts m (Seals body tuple app rtag) s = true
step_accounts m (Writes b app body) s = accounts_out m b (get_or s.blocks (stored_cell m.site (route m b)) []) (own_frame (route m b) app (gather 0 body s.bytes))
step_accounts m (WritesPi b frame) s = accounts_out m b (get_or s.blocks (stored_cell m.site (route m b)) []) (gather 0 frame s.bytes)
step_accounts m (Reads b owner to) s = not (is_served m b) || shows_in m b (get_or s.blocks (fetched_cell m.site (route m b)) [])
step_accounts m (Alters dev lba change) s = step_shows m (Alters dev lba change) s

-- Each fault of the walk can be shown, or is of a block that the medium fails, loses or misdirects.
abbrev pub accounted : Setting → List Step → State → Bool
accounted m [] s = true
accounted m (step ∷ steps) s = step_accounts m step s && accounted m steps (act (act_of m step) s)
