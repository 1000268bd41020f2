-- Scripts with faults, worked by hand: whether each fault can be shown, and which layer is the first after it.
use Rattle.std.proofs.Common.{◌≡◌, ℕ, Bool, true, false, List, [], ◌∷◌, ◌++◌, refl}
use Rattle.std.specs.Prelude.{replicate, pos, Option, Some, None}
use Rattle.pi_guard.specs.Guards.{crc, ip}
use Rattle.pi_guard.specs.declared.GuardKind.TheVariants.{Crc}
use Rattle.pi_tuple.specs.declared.checks.Check.TheVariants.{Guard, RefTag}
use Rattle.pi_tuple.specs.declared.checks.PiType.TheVariants.{One}
use Rattle.page_pool.specs.Places.{run}
use Rattle.fault_schedule.specs.declared.fault.Crossing.TheVariants.{AdapterToHost, AdapterToTarget, MediumToTarget, TargetToAdapter, TargetToMedium}
use Rattle.stack_ops.specs.Passed.{Copy}
use Rattle.stack_ops.specs.declared.op.Op.{Op}
use Rattle.stack_ops.specs.declared.op.Op.TheVariants.{Fetch, Overwrite, Write}
use Rattle.block_path.specs.Passed.{found_in, from_medium, to_medium}
use Rattle.block_path.specs.WayIn.{from_wire}
use Rattle.block_path.specs.WayOut.{to_wire}
use Rattle.walk_laws.specs.Detectable.{detectable, found}
use Rattle.walk_laws.specs.FirstLayer.{AtAdapter, AtOwner, AtTarget, Layer, first_layer, last_accepted}
use Rattle.walk_laws.specs.Past.{Brought, past_after, steps_from}
use Rattle.walk_laws.specs.Settings.{Setting, block_of}
use Rattle.walk_laws.proofs.ScriptRows.{fail, faulty, flip, formatted, keep, opening, seg, shift, with_faults, write_and_read}

abbrev may_ask : Setting → List Op → Bool
may_ask m ops = detectable m (steps_from m 1 ops) opening

-- the first layer of block 0 of op i, a request of virtual block 0, after these ops
abbrev first_after : Setting → List Op → ℕ → Option Layer
first_after m ops i = first_layer m (past_after m (steps_from m 1 ops) opening []) (block_of i 0 0)

abbrev last_after : Setting → List Op → ℕ → Brought
last_after m ops i = last_accepted m opening (block_of i 0 0) (past_after m (steps_from m 1 ops) opening [])

abbrev written : List Op
written = Write 0 1 (seg 0 512) 0x1234 ∷ []

abbrev fetched : List Op
fetched = Fetch 0 1 (seg 0 512) ∷ []

-- A write that the target refuses: what was there is still the last.
refused_shows : may_ask (faulty (flip 1 0 AdapterToTarget 0 1)) write_and_read ≡ true
unfolding crc ip found_in to_medium from_medium to_wire from_wire run
refused_shows = refl

refused_first : first_after (faulty (flip 1 0 AdapterToTarget 0 1)) written 2 ≡ None
unfolding crc ip found_in to_medium from_medium to_wire from_wire run
refused_first = refl

refused_last : last_after (faulty (flip 1 0 AdapterToTarget 0 1)) written 2 ≡ record { body = replicate 512 0; app = 0 }
unfolding crc ip found_in to_medium from_medium to_wire from_wire run
refused_last = refl

-- A flip on the way to the medium, until the next accepted write.
spoilt_shows : may_ask (faulty (flip 1 0 TargetToMedium 5 0x80)) write_and_read ≡ true
unfolding crc ip found_in to_medium from_medium to_wire from_wire run
spoilt_shows = refl

spoilt_first : first_after (faulty (flip 1 0 TargetToMedium 5 0x80)) written 2 ≡ Some AtTarget
unfolding crc ip found_in to_medium from_medium to_wire from_wire run
spoilt_first = refl

healed_first : first_after (faulty (flip 1 0 TargetToMedium 5 0x80)) (written ++ written) 3 ≡ None
unfolding crc ip found_in to_medium from_medium to_wire from_wire run
healed_first = refl

healed_last : last_after (faulty (flip 1 0 TargetToMedium 5 0x80)) (written ++ written) 3 ≡ record { body = replicate 512 0; app = 0x1234 }
unfolding crc ip found_in to_medium from_medium to_wire from_wire run
healed_last = refl

-- Neither a lost write nor a torn one is among the faults that are shown.
lost_hides : may_ask (faulty (keep 1 0 0)) written ≡ false
unfolding crc ip found_in to_medium from_medium to_wire from_wire run
lost_hides = refl

torn_hides : may_ask (faulty (keep 1 0 260)) written ≡ false
unfolding crc ip found_in to_medium from_medium to_wire from_wire run
torn_hides = refl

-- Nor is a block that the medium fails: a write, after which what was there is still the last, or a read.
failed_write_hides : may_ask (faulty (fail 1 0)) written ≡ false
unfolding crc ip found_in to_medium from_medium to_wire from_wire run
failed_write_hides = refl

failed_last : last_after (faulty (fail 1 0)) written 2 ≡ record { body = replicate 512 0; app = 0 }
unfolding crc ip found_in to_medium from_medium to_wire from_wire run
failed_last = refl

failed_read_hides : may_ask (faulty (fail 1 0)) fetched ≡ false
unfolding crc ip found_in to_medium from_medium to_wire from_wire run
failed_read_hides = refl

-- One that no op takes hides nothing.
other_fails_show : may_ask (faulty (fail 1 1 ++ fail 3 0)) write_and_read ≡ true
unfolding crc ip found_in to_medium from_medium to_wire from_wire run
other_fails_show = refl

-- Shifts and flips of a read.
shifted_wire_shows : may_ask (faulty (shift 1 AdapterToTarget (pos 1))) fetched ≡ true
unfolding crc ip found_in to_medium from_medium to_wire from_wire run
shifted_wire_shows = refl

shifted_wire_first : first_after (faulty (shift 1 AdapterToTarget (pos 1))) [] 1 ≡ Some AtAdapter
shifted_wire_first = refl

shifted_medium_shows : may_ask (faulty (shift 1 MediumToTarget (pos 1))) fetched ≡ true
unfolding crc ip found_in to_medium from_medium to_wire from_wire run
shifted_medium_shows = refl

shifted_medium_first : first_after (faulty (shift 1 MediumToTarget (pos 1))) [] 1 ≡ Some AtTarget
shifted_medium_first = refl

wire_first : first_after (faulty (flip 1 0 TargetToAdapter 519 1)) [] 1 ≡ Some AtAdapter
wire_first = refl

wire_found : found (faulty (flip 1 0 TargetToAdapter 519 1)) (block_of 1 0 0) (formatted 2) AtAdapter ≡ Some RefTag
unfolding crc ip found_in
wire_found = refl

host_first : first_after (faulty (flip 1 0 AdapterToHost 511 1)) [] 1 ≡ Some AtOwner
host_first = refl

host_found : found (faulty (flip 1 0 AdapterToHost 511 1)) (block_of 1 0 0) (formatted 2) AtOwner ≡ Some Guard
unfolding crc ip found_in
host_found = refl

-- An altered tag that is the virtual one can't be shown.
hidden_tag : may_ask (faulty (flip 1 0 AdapterToHost 519 2)) fetched ≡ false
unfolding crc ip found_in to_medium from_medium to_wire from_wire run
hidden_tag = refl

-- A block of another address is shown, one copied onto itself isn't.
copied_shows : may_ask (faulty []) (Overwrite 0 2 (Copy 0 3) ∷ fetched) ≡ true
unfolding crc ip found_in to_medium from_medium to_wire from_wire run
copied_shows = refl

copied_first : first_after (faulty []) (Overwrite 0 2 (Copy 0 3) ∷ []) 2 ≡ Some AtTarget
unfolding crc ip run
copied_first = refl

copied_onto_itself : may_ask (faulty []) (Overwrite 0 2 (Copy 0 2) ∷ fetched) ≡ false
unfolding crc ip found_in to_medium from_medium to_wire from_wire run
copied_onto_itself = refl

-- An application tag altered alone is shown where it is asked for.
tag_asked : may_ask (with_faults Crc true true One 0x1234 0xFFFF (flip 2 0 TargetToAdapter 515 1)) (written ++ fetched) ≡ true
unfolding crc ip found_in to_medium from_medium to_wire from_wire run
tag_asked = refl

tag_not_asked : may_ask (faulty (flip 2 0 TargetToAdapter 515 1)) (written ++ fetched) ≡ false
unfolding crc ip found_in to_medium from_medium to_wire from_wire run
tag_not_asked = refl
