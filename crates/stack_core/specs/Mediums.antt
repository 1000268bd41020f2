-- What failed at the medium so far though no fault line says that it fails there: blocks of commands in flight, blocks that are kept, and overwrites.
use Rattle.std.specs.Prelude.{◌≡◌, ◌≤◌, ◌⊎◌, ℕ, suc, ◌+◌, ◌-◌, ◌^◌, true, not, ◌&&◌, ltb, if◌then◌else◌, List, [], ◌∷◌, map}
use Rattle.bio_core.specs.declared.fate.Fate.{Fate}
use Rattle.bio_core.specs.declared.fate.Fate.TheVariants.{Good, Bad, Untouched}
use Rattle.bio_core.specs.declared.request.Io.{Io}
use Rattle.dix_adapter.specs.Groups.{blocks_in, label_of}
use Rattle.fault_schedule.specs.Altered.{fails_of}
use Rattle.fault_schedule.specs.declared.Label.{Label}
use Rattle.fault_schedule.specs.declared.fault.FaultLine.{FaultLine}
use Rattle.merge_queue.specs.Index.{total}
use Rattle.stack_ops.specs.declared.reply.BadBlock.{BadBlock}
use Rattle.stack_ops.specs.declared.reply.Reply.{Reply}
use Rattle.stack_ops.specs.declared.reply.Reply.TheVariants.{Silent, Whole, Bad as BadReply, Shown, Medium as MediumReply}
use Rattle.bio_core.specs.declared.bio.Bio.{Bio}
use Rattle.stack_laws.specs.Plan.{Plan}
use Rattle.stack_laws.specs.Sound.{Settles}
use Rattle.stack_laws.specs.Steps.{Step, can, step}
use Rattle.stack_laws.specs.View.{Command, View}
use Rattle.stack_steps.specs.declared.choice.Choice.{Choice}
use Rattle.stack_steps.specs.declared.machine.Machine.{Machine}
use Rattle.stack_steps.specs.Does.{Flies, Holds, Takes}
use Rattle.stack_steps.specs.Shows.{Means}
use Rattle.block_path.specs.Senses.{is_medium_why}
use Rattle.stack_core.specs.declared.stack.Stack.{Stack}
use Rattle.stack_core.specs.OnRecord.{bad_blocks}
use Rattle.stack_core.specs.Stacks.{plan_in}

-- A count rose by as much as this, or stands at its last value.
abbrev pub RoseBy : ℕ → ℕ → ℕ → Type 0
RoseBy n old new = (old + n ≤ new) ⊎ (2 ^ 64 ≤ new + 1)

-- 1 for a block that failed at the medium, where no fault line says that it fails
abbrev pub one_unscheduled : List FaultLine → Label → Fate → ℕ
one_unscheduled faults label Good = 0
one_unscheduled faults label (Bad why) = if is_medium_why why && not (fails_of faults label) then 1 else 0
one_unscheduled faults label Untouched = 0

-- so many of the blocks with these labels
abbrev pub unscheduled_of : List FaultLine → List Label → List Fate → ℕ
unscheduled_of faults [] fates = 0
unscheduled_of faults (label ∷ labels) [] = 0
unscheduled_of faults (label ∷ labels) (f ∷ fates) = one_unscheduled faults label f + unscheduled_of faults labels fates

abbrev pub labels_in : List Bio → List Label
labels_in group = map label_of (blocks_in group)

-- of the commands that aren't completed
abbrev pub in_flight : List FaultLine → List Command → ℕ
in_flight faults cs = total (λ c. if c.completed then 0 else unscheduled_of faults (labels_in c.bios) c.fates) cs

-- the label of the block that is kept at this place behind the first block of these requests, the first of which is that of the op of this number
abbrev pub label_kept : (op : ℕ) → List Io → (place : ℕ) → Label
label_kept op [] place = record { op = op; k = place }
label_kept op (io ∷ ios) place = if ltb place io.count then record { op = op; k = place } else label_kept (suc op) ios (place - io.count)

-- of the blocks that are kept from this place on, with the labels of their places
abbrev pub held_from : List FaultLine → (label : ℕ → Label) → (place : ℕ) → List Fate → ℕ
held_from faults label place [] = 0
held_from faults label place (f ∷ fates) = one_unscheduled faults (label place) f + held_from faults label (suc place) fates

-- of all that are kept of these requests; ops are numbered from 1
abbrev pub kept_unscheduled : List FaultLine → List Io → List Fate → ℕ
kept_unscheduled faults ios held = held_from faults (label_kept 1 ios) 0 held

-- 1 for an overwrite whose store call failed
abbrev pub one_reply : Reply → ℕ
one_reply Silent = 0
one_reply Whole = 0
one_reply (BadReply blocks) = 0
one_reply (Shown bytes) = 0
one_reply MediumReply = 1

abbrev pub medium_replies : List Reply → ℕ
medium_replies [] = 0
medium_replies (r ∷ rs) = one_reply r + medium_replies rs

-- ---- between two steps

-- A machine with these fates kept of these requests, and these replies: what failed at the medium, but for the blocks of which these fault lines say so, is at most as much as the count of faults rose since it stood so.
pub record HasCountedBy (faults : List FaultLine) (first : ℕ) (ios : List Io) (p : Plan) (m : Machine) (held : List Fate) (replies : List Reply) (count : ℕ) : Type 0 where
  pub view : View
  pub holds : Holds p m view
  pub rose : RoseBy (in_flight faults view.commands + (kept_unscheduled faults ios held + medium_replies replies)) first count

abbrev pub HasCounted : List FaultLine → ℕ → Stack → ℕ → Type 0
HasCounted faults first s count = HasCountedBy faults first s.sheet.ios.items (plan_in s.sheet) s.machine s.kept.held.items s.replies.items count

-- ---- the parts of a step

-- no more blocks failed so when the step of this choice is done, whichever view the machine showed
abbrev pub Counts : List FaultLine → List Io → Plan → Machine → Choice → (held held' : List Fate) → Type 0
Counts faults ios p m c held held' = (v : View) (t : Step) (cut : ℕ) → Holds p m v → can p v t ≡ true → Means p v c t
    → in_flight faults (step p v t cut []).commands + kept_unscheduled faults ios held' ≤ in_flight faults v.commands + kept_unscheduled faults ios held

-- A group was taken and sent; for each of its blocks that failed at the medium the count rose, but for those of which a fault line says so.
pub record Spoils (p : Plan) (m : Machine) (d i : ℕ) (m' : Machine) (armed : List FaultLine) (count count' : ℕ) : Type 0 where
  pub taken : Machine
  pub group : List Bio
  pub fates : List Fate
  pub takes : Takes p m d i group taken
  pub flies : Flies p taken d group fates m'
  pub settles : Settles group fates
  pub rose : (n first : ℕ) → RoseBy n first count → RoseBy (n + unscheduled_of armed (labels_in group) fates) first count'

-- ---- replies

abbrev pub listed_mediums : List BadBlock → ℕ
listed_mediums [] = 0
listed_mediums (b ∷ blocks) = (if is_medium_why b.why then 1 else 0) + listed_mediums blocks

-- the blocks that replies list with the medium, and the overwrites that it failed
abbrev pub medium_lines : List Reply → ℕ
medium_lines [] = 0
medium_lines (r ∷ rs) = listed_mediums (bad_blocks r) + one_reply r + medium_lines rs

-- ---- beside the fault lines

-- those of the blocks that the reply of this op lists with the medium of which no fault line says that it fails them
abbrev pub listed_unscheduled : List FaultLine → (op : ℕ) → List BadBlock → ℕ
listed_unscheduled faults op [] = 0
listed_unscheduled faults op (b ∷ blocks) = (if is_medium_why b.why && not (fails_of faults (record { op = op; k = b.k })) then 1 else 0) + listed_unscheduled faults op blocks

abbrev pub unscheduled_from : List FaultLine → (op : ℕ) → List Reply → ℕ
unscheduled_from faults op [] = 0
unscheduled_from faults op (r ∷ rs) = listed_unscheduled faults op (bad_blocks r) + one_reply r + unscheduled_from faults (suc op) rs

-- the lines that name the medium and are no block that a fault line says it fails; ops are numbered from 1
abbrev pub unscheduled_mediums : List FaultLine → List Reply → ℕ
unscheduled_mediums faults replies = unscheduled_from faults 1 replies
