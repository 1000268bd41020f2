use Rattle.std.specs.Prelude.{ℕ, ◌≡◌, ◌⊎◌, ◌+◌, ◌<◌, ◌≤◌, true, [], Option, Some, None}
use Rattle.pi_tuple.specs.declared.checks.Check.{Check}
use Rattle.pi_tuple.specs.declared.checks.Check.TheVariants.{Guard, RefTag}
use Rattle.pi_tuple.specs.declared.checks.PiType.TheVariants.{One}
use Rattle.bio_core.specs.declared.fate.Why.{Why}
use Rattle.bio_core.specs.declared.fate.Why.TheVariants as why
use Rattle.script_lines.specs.declared.line.Spot.{Spot}
use Rattle.script_lines.specs.declared.line.Spot.TheVariants.{Host, Wire, Medium}
use Rattle.stack_ops.specs.declared.op.Op.{Op}
use Rattle.stack_ops.specs.declared.op.Op.TheVariants as op
use Rattle.stack_ops.specs.declared.reply.Reply.{Reply}
use Rattle.rig_api.specs.Headers.{is_layout}
use Rattle.rig_api.specs.Image.{formatted}
use Rattle.walk_laws.specs.UnderMap.{NoEscape}
use Rattle.stack_ops.specs.Ops.{first_virt}
use Rattle.run_premises.specs.Forms.{escapes_none, op_of}
use Rattle.script_laws.specs.Keeping.{Each}
use Rattle.image_laws.specs.Passed.{IsSound, devices_of}
use Rattle.volume_table.specs.Faults.{table_fault}
use Rattle.volume_table.specs.Places.{place_in}
use Rattle.script_text.specs.Bindings.{binding_fault}
use Rattle.image_laws.specs.Over.{opening_over, setting_over, volume_over}
use Rattle.flip_sweep.specs.Comes.{came_to}
use Rattle.flip_sweep.specs.Flips.{own_fault, sites_of}
use Rattle.flip_sweep.specs.Swept.{Sweep, verdict_at}
use Rattle.flip_sweep.specs.Verdicts.{listed}
use Rattle.flip_sweep.specs.declared.flips.Site.{Site}
use Rattle.flip_sweep.specs.declared.verdict.Verdict.{Verdict}
use Rattle.flip_sweep.specs.declared.verdict.Verdict.TheVariants.{Found, Same, Scrub, Unseen}
use Rattle.pi_tuple.specs.declared.TheConstants.{TUPLE}

-- What a sweep says of a flip of data, guard or reference tag, in type 1 where tuples are passed all the way under protect field 001b.

-- The layer that finds a flip of an op there by this check, before anything else comes of it. A write's block that is altered on its way to the medium is accepted: nobody finds it yet.
abbrev pub finder : Check → Op → Spot → Option Why
finder check (op.Write v n body app) Host = Some (why.Adapter check)
finder check (op.Write v n body app) Wire = Some (why.Target check)
finder check (op.WritePi v n body tuples) Host = Some (why.Adapter check)
finder check (op.WritePi v n body tuples) Wire = Some (why.Target check)
finder check (op.Fetch v n body) Host = Some (why.Block check)
finder check (op.Fetch v n body) Wire = Some (why.Adapter check)
finder check (op.Fetch v n body) Medium = Some (why.Target check)
finder check (op.FetchPi v n body tuples) Host = Some (why.App check)
finder check (op.FetchPi v n body tuples) Wire = Some (why.Adapter check)
finder check (op.FetchPi v n body tuples) Medium = Some (why.Target check)
finder check _ _ = None

-- A stored block that was altered in this op is found by the target, not before, or by a scrub in its place, each time by this check; or all is the same, as a later write took its place.
abbrev pub IsFoundLater : Check → (number : ℕ) → (place : ℕ × ℕ) → Verdict → Type 0
IsFoundLater check number place (Found op k w) = (number ≤ op) × (w ≡ why.Target check)
IsFoundLater check number place (Scrub dev lba other) = (other ≡ check) × ((dev, lba) ≡ place)
IsFoundLater check number place Same = Unit {0}
IsFoundLater check number place Unseen = ⊥

-- The flip is found by this layer, in its own op and block; or later, where the block lies there.
abbrev pub IsFoundBy : Check → Option Why → (place : ℕ × ℕ) → Site → Verdict → Type 0
IsFoundBy check (Some w) place at v = v ≡ Found at.op at.k w
IsFoundBy check None place at v = IsFoundLater check at.op place v

-- At the host the tag of a read's block may become that of its virtual block, which is right there: then all is the same.
abbrev pub MayBeSame : Op → Spot → Verdict → Type 0
MayBeSame (op.Fetch v n body) Host verdict = verdict ≡ Same
MayBeSame (op.FetchPi v n body tuples) Host verdict = verdict ≡ Same
MayBeSame _ _ verdict = ⊥

-- The script is of the language, fits an image of these units and has no fault of its own. Its volume is of type 1, tuples are passed all the way, and commands have protect field 001b. The byte isn't 0.
pub record IsGuarded (w : Sweep) : Type 0 where
  pub layout : is_layout w.units ≡ true
  pub sound : IsSound w.script
  pub volume : table_fault w.script.entries (devices_of (formatted w.units)) w.script.block ≡ None
  pub lines : binding_fault w.script (volume_over w.script (formatted w.units)) (devices_of (formatted w.units)) ≡ None
  pub own : own_fault w.script ≡ None
  pub ty : (volume_over w.script (formatted w.units)).ty ≡ One
  pub dix : w.script.mode.dix ≡ true
  pub dif : w.script.mode.dif ≡ true
  pub protect : w.script.mode.protect ≡ 1
  pub byte : 1 ≤ w.byte
  pub byte_fits : w.byte < 256

-- No write supplies an escape, and the run as it is lists no block.
pub record IsQuietSweep (w : Sweep) : Type 0 where
  pub guarded : IsGuarded w
  pub no_escape : NoEscape (setting_over w.script (formatted w.units)) 1 w.script.ops (opening_over w.script (formatted w.units))
  pub quiet : Each (λ (r : Reply). listed r ≡ []) (came_to w.script w.units).replies

-- The same by what a reader of the script sees: there is no `expect` line, no `write` with the application tag FFFFh, and no `writepi`.
pub record IsPlainSweep (w : Sweep) : Type 0 where
  pub guarded : IsGuarded w
  pub expect : w.script.mode.mask ≡ 0
  pub escapes : escapes_none w.script.ops ≡ true

-- ---- the laws

-- Over a formatted image such a script's run lists nothing.
abbrev pub PlainIsQuiet : Type 0
PlainIsQuiet = (w : Sweep) → IsPlainSweep w → IsQuietSweep w

-- at each crossing of each block of the script's reads and writes
abbrev pub Everywhere : Sweep → (Site → Type 0) → Type 0
Everywhere w P = Each P (sites_of w.script)

-- The flip of this byte there is found by this check, by its layer or later.
abbrev pub IsFoundAt : Sweep → Check → Site → (off : ℕ) → Type 0
IsFoundAt w check at off = let op = op_of w.script.ops at.op in IsFoundBy check (finder check op at.spot) (place_in w.script.entries (first_virt op + at.k)) at (verdict_at w at off)

-- Each flip of a byte of data or guard is found by its guard.
abbrev pub GuardFlipsAreFound : Type 0
GuardFlipsAreFound = (w : Sweep) → IsQuietSweep w → Everywhere w (λ at. (off : ℕ) → off < w.script.block + 2 → IsFoundAt w Guard at off)

-- Each flip of a byte of the reference tag is found by its tag, but where it makes the tag a right one.
abbrev pub TagFlipsAreFound : Type 0
TagFlipsAreFound = (w : Sweep) → IsQuietSweep w →
    Everywhere w (λ at. (off : ℕ) → w.script.block + 4 ≤ off → off < w.script.block + TUPLE → IsFoundAt w RefTag at off ⊎ MayBeSame (op_of w.script.ops at.op) at.spot (verdict_at w at off))

-- So none of them is unseen: what nobody sees is a flip of an application tag.
abbrev pub OnlyAppTagsAreUnseen : Type 0
OnlyAppTagsAreUnseen = (w : Sweep) → IsQuietSweep w →
    Everywhere w (λ at. (off : ℕ) → off < w.script.block + TUPLE → verdict_at w at off ≡ Unseen → (w.script.block + 2 ≤ off) × (off < w.script.block + 4))
