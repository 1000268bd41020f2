use Rattle.std.specs.Prelude.{ℕ, zero, suc, Bool, true, false, ◌&&◌, ◌||◌, not, eqb, if◌then◌else◌, List, [], ◌∷◌, get_or, nat_abs, Option, Some, None}
use Rattle.std.specs.List.{list_any}
use Rattle.fault_schedule.specs.Altered.{fails_of, is_line_of, keep_of, shift_of}
use Rattle.fault_schedule.specs.declared.fault.Crossing.{Crossing}
use Rattle.fault_schedule.specs.declared.fault.Crossing.TheVariants.{AdapterToHost, AdapterToTarget, MediumToTarget, TargetToAdapter, TargetToMedium}
use Rattle.fault_schedule.specs.declared.fault.FaultKind.{FaultKind}
use Rattle.fault_schedule.specs.declared.fault.FaultKind.TheVariants.{Flip, Shift, Keep, Fail}
use Rattle.block_path.specs.Acts.{State}
use Rattle.block_path.specs.Blocks.{fetched_cell, own_cell, stored_cell}
use Rattle.walk_laws.specs.Past.{Accepted, Brought, Event, Lost, Overwritten, brought_by}
use Rattle.walk_laws.specs.Settings.{Block, Setting, route}

-- Which layer is the first that checks after a fault, and what was the last accepted write: in type 1 with tuples that are passed and protect field 001b.

pub data Layer : Type 0 where
  AtTarget : Layer
  AtAdapter : Layer
  AtOwner : Layer

abbrev pub is_flip : FaultKind → Bool
is_flip (Flip off bytes) = true
is_flip (Shift by) = false
is_flip (Keep bytes) = false
is_flip Fail = false

-- A line flips bytes of the block at this crossing.
abbrev pub has_flip : Setting → Block → Crossing → Bool
has_flip m b at = list_any (λ line. is_line_of line at (route m b).label && is_flip line.kind) m.site.faults

-- The op's addresses are shifted at this crossing.
abbrev pub has_shift : Setting → Block → Crossing → Bool
has_shift m b at = not (eqb (nat_abs (shift_of m.site.faults at b.op)) 0)

abbrev pub is_all : Option ℕ → Bool
is_all None = true
is_all (Some n) = false

-- No line says that the medium can't store or send the block.
abbrev pub is_served : Setting → Block → Bool
is_served m b = not (fails_of m.site.faults (route m b).label)

-- Nor does one let it store but a part of the block, or store it elsewhere.
abbrev pub is_stored_whole : Setting → Block → Bool
is_stored_whole m b = is_served m b && (is_all (keep_of m.site.faults (route m b).label) && not (has_shift m b TargetToMedium))

abbrev pub keeps_none : Option ℕ → Bool
keeps_none None = false
keeps_none (Some zero) = true
keeps_none (Some (suc n)) = false

abbrev pub keeps_part : Option ℕ → Bool
keeps_part None = false
keeps_part (Some zero) = false
keeps_part (Some (suc n)) = true

-- What a disk does to a write that it acknowledges: it loses the block, or stores a part of it, or stores it elsewhere.
abbrev pub loses : Setting → Block → Bool
loses m b = keeps_none (keep_of m.site.faults (route m b).label)

abbrev pub tears : Setting → Block → Bool
tears m b = keeps_part (keep_of m.site.faults (route m b).label)

abbrev pub is_misdirected : Setting → Block → Bool
is_misdirected m b = has_shift m b TargetToMedium

-- It does neither the first nor the last: the block's own cell has what comes of it.
abbrev pub is_at_home : Setting → Block → Bool
is_at_home m b = not (loses m b) && not (is_misdirected m b)

-- A cell is hit where, since the last block that was accepted and stored there, an overwrite altered it, or that block was torn, had a flip on its way to the medium, or belongs elsewhere. A lost block is stored nowhere.
abbrev pub is_hit : Setting → (cell : ℕ) → List Event → Bool
is_hit m cell [] = false
is_hit m cell (Accepted b e ∷ past) =
    if not (loses m b) && eqb (stored_cell m.site (route m b)) cell then is_misdirected m b || (tears m b || has_flip m b TargetToMedium)
    else is_hit m cell past
is_hit m cell (Lost b ∷ past) = is_hit m cell past
is_hit m cell (Overwritten other ∷ past) = eqb other cell || is_hit m cell past

-- The target is the first for a fault of the medium, the adapter for one on the wire, the owner of the tuple for one at the host; else there is none.
abbrev pub first_layer : Setting → List Event → Block → Option Layer
first_layer m past b =
    if has_shift m b MediumToTarget || (has_flip m b MediumToTarget || is_hit m (fetched_cell m.site (route m b)) past) then Some AtTarget
    else if has_shift m b AdapterToTarget || has_flip m b TargetToAdapter then Some AtAdapter
    else if has_flip m b AdapterToHost then Some AtOwner
    else None

-- what the newest accepted write of the virtual block brought, of those that count, else what the opening image has at its place
abbrev pub last_counted : (counts : Block → Bool) → Setting → (opening : State) → Block → List Event → Brought
last_counted counts m opening b [] = brought_by m.size (get_or opening.blocks (own_cell m.site (route m b)) [])
last_counted counts m opening b (Accepted a e ∷ past) = if counts a && eqb a.virt b.virt then e else last_counted counts m opening b past
last_counted counts m opening b (Lost a ∷ past) = last_counted counts m opening b past
last_counted counts m opening b (Overwritten cell ∷ past) = last_counted counts m opening b past

-- the last accepted write: what the host was promised
abbrev pub last_accepted : Setting → (opening : State) → Block → List Event → Brought
last_accepted m opening b past = last_counted (λ a. true) m opening b past

-- the last that was stored at home: what the disk has
abbrev pub last_stored : Setting → (opening : State) → Block → List Event → Brought
last_stored m opening b past = last_counted (is_at_home m) m opening b past
