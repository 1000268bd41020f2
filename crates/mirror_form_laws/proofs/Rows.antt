-- Faults on a mirror of four blocks on each side of the form's limits, worked by hand. Op 1 writes blocks 1 and 2, op 2 reads them, op 3 writes block 2 alone.
use Rattle.std.proofs.Common.{◌≡◌, ℕ, true, false, List, [], ◌∷◌, refl}
use Rattle.pi_guard.specs.Guards.{crc}
use Rattle.pi_guard.specs.declared.GuardKind.TheVariants.{Crc, Ip}
use Rattle.fault_schedule.specs.declared.fault.Crossing.{Crossing}
use Rattle.fault_schedule.specs.declared.fault.Crossing.TheVariants.{AdapterToTarget, HostToAdapter, MediumToTarget, TargetToAdapter, TargetToMedium}
use Rattle.fault_schedule.specs.declared.fault.FaultKind.TheVariants.{Flip, Shift, Keep, Fail}
use Rattle.fault_schedule.specs.declared.fault.FaultLine.{FaultLine}
use Rattle.rig_api.specs.declared.change.Change.TheVariants.{Copy}
use Rattle.stack_ops.specs.declared.op.Op.{Op}
use Rattle.stack_ops.specs.declared.op.Op.TheVariants.{Fetch, Fill, Overwrite, Write}
use Rattle.std.specs.Prelude.{pos}
use Rattle.walk_laws.proofs.ScriptRows.{seg}
use Rattle.run_premises.specs.Forms.{escapes_none}
use Rattle.mirror_form_laws.specs.Forms.{leaves_a_leg, shows_on_legs, virt_on_legs}

abbrev ops : List Op
ops = Write 1 2 (seg 0 1024) 0 ∷ Fetch 1 2 (seg 0 1024) ∷ Write 2 1 (seg 0 512) 0 ∷ []

abbrev line : (op k : ℕ) → Crossing → FaultLine
line op k at = record { op = op; k = k; at = at; kind = Flip 17 (1 ∷ []) }

-- ---- places

-- places 0 and 1 are blocks 1 and 2 on leg 0, places 2 and 3 the same on leg 1
places : (virt_on_legs 4 ops (line 1 1 HostToAdapter) ≡ 2) × ((virt_on_legs 4 ops (line 1 2 HostToAdapter) ≡ 5) × (virt_on_legs 4 ops (line 3 1 HostToAdapter) ≡ 6))
places = (refl, (refl, refl))

-- ---- a leg for each block

-- Two blocks, each on one leg.
one_leg_each : leaves_a_leg 4 (line 1 0 HostToAdapter ∷ line 1 3 AdapterToTarget ∷ []) ops ≡ true
one_leg_each = refl

-- One block, on one leg, in each of its ops.
one_leg_always : leaves_a_leg 4 (line 1 3 HostToAdapter ∷ line 2 3 TargetToAdapter ∷ line 3 1 HostToAdapter ∷ []) ops ≡ true
one_leg_always = refl

-- One block on both legs, in one op and in two.
both_legs : leaves_a_leg 4 (line 1 1 HostToAdapter ∷ line 1 3 HostToAdapter ∷ []) ops ≡ false
both_legs = refl

both_in_turn : leaves_a_leg 4 (line 1 3 HostToAdapter ∷ line 3 0 HostToAdapter ∷ []) ops ≡ false
both_in_turn = refl

-- ---- faults that are shown

shown_on_each : shows_on_legs Ip 512 4 (line 1 0 HostToAdapter ∷ line 1 3 AdapterToTarget ∷ []) ops ≡ true
unfolding crc
shown_on_each = refl

-- A block is altered on its way to the medium, and on its way from there: on the same leg, and on the other.
undone : shows_on_legs Crc 512 4 (line 3 1 TargetToMedium ∷ line 2 3 MediumToTarget ∷ []) ops ≡ false
unfolding crc
undone = refl

not_undone : shows_on_legs Crc 512 4 (line 3 1 TargetToMedium ∷ line 2 1 MediumToTarget ∷ []) ops ≡ true
unfolding crc
not_undone = refl

-- A write that is lost on a leg.
lost : shows_on_legs Crc 512 4 (record { op = 1; k = 0; at = TargetToMedium; kind = Keep 0 } ∷ []) ops ≡ false
lost = refl

-- A part of a block is stored, even all of it.
torn : (shows_on_legs Crc 512 4 (record { op = 1; k = 0; at = TargetToMedium; kind = Keep 17 } ∷ []) ops ≡ false) × (shows_on_legs Crc 512 4 (record { op = 1; k = 0; at = TargetToMedium; kind = Keep 520 } ∷ []) ops ≡ false)
torn = (refl, refl)

-- The medium of a leg fails a block, of a write and of a read, beside a flip on the other leg. On both legs that leaves it no leg.
abbrev failing : (op k : ℕ) → FaultLine
failing op k = record { op = op; k = k; at = TargetToMedium; kind = Fail }

failed : shows_on_legs Crc 512 4 (failing 1 0 ∷ failing 2 1 ∷ line 1 3 AdapterToTarget ∷ []) ops ≡ true
unfolding crc
failed = refl

fails_leave : (leaves_a_leg 4 (failing 1 0 ∷ failing 2 0 ∷ line 1 3 AdapterToTarget ∷ []) ops ≡ true) × (leaves_a_leg 4 (failing 1 0 ∷ failing 2 2 ∷ []) ops ≡ false)
fails_leave = (refl, refl)

-- A shift, and an overwrite.
shifted : shows_on_legs Crc 512 4 (record { op = 1; k = 0; at = AdapterToTarget; kind = Shift (pos 1) } ∷ []) ops ≡ false
shifted = refl

overwritten : shows_on_legs Crc 512 4 [] (Overwrite 0 0 (Copy 0 1) ∷ []) ≡ false
overwritten = refl

-- What no guard shows.
hidden : shows_on_legs Crc 512 4 (record { op = 1; k = 2; at = AdapterToTarget; kind = Flip 17 (0x01 ∷ 0x8B ∷ 0xB7 ∷ []) } ∷ []) ops ≡ false
unfolding crc
hidden = refl

-- ---- a script with a fault on each leg, by its lines: block 5 on leg 0 and block 6 on leg 1, of 64

abbrev both_damaged : List Op
both_damaged = Fill (record { page = 0; off = 0; len = 1536 }) 0xAA ∷ Write 5 3 (seg 0 1536) 0x1234 ∷ Fetch 5 3 (seg 4096 1536) ∷ []

abbrev two_faults : List FaultLine
two_faults = record { op = 2; k = 0; at = HostToAdapter; kind = Flip 0 (1 ∷ []) } ∷ record { op = 2; k = 4; at = TargetToMedium; kind = Flip 0 (1 ∷ []) } ∷ []

shown_by_lines : (shows_on_legs Crc 512 64 two_faults both_damaged ≡ true) × ((leaves_a_leg 64 two_faults both_damaged ≡ true) × (escapes_none both_damaged ≡ true))
unfolding crc
shown_by_lines = (refl, (refl, refl))
