-- Mirrors worked by hand: one block, on two units of one formatted block each.
use Rattle.std.specs.Prelude.{◌≡◌, true, false, List, [], ◌∷◌, ◌++◌, get_or, map, replicate, take, Some, None, Ok, Err, refl}
use Rattle.pi_guard.specs.Guards.{crc, ip}
use Rattle.pi_guard.specs.declared.GuardKind.TheVariants.{Crc}
use Rattle.pi_tuple.specs.declared.checks.Check.TheVariants.{Guard}
use Rattle.pi_tuple.specs.declared.checks.PiType.TheVariants.{One}
use Rattle.page_pool.specs.Places.{run}
use Rattle.fault_schedule.specs.declared.fault.Crossing.TheVariants.{HostToAdapter, TargetToAdapter}
use Rattle.fault_schedule.specs.declared.fault.FaultLine.{FaultLine}
use Rattle.bio_core.specs.declared.fate.Why.TheVariants.{Adapter, Medium, Short}
use Rattle.stack_ops.specs.declared.op.Op.{Op}
use Rattle.stack_ops.specs.declared.op.Op.TheVariants.{Fetch, Put, Show, Write}
use Rattle.stack_ops.specs.declared.reply.Reply.TheVariants.{Bad, Shown, Silent, Whole}
use Rattle.rig_api.specs.Passing.{found_in, from_medium, to_medium}
use Rattle.volume_table.specs.declared.entry.Entry.TheVariants.{Linear}
use Rattle.block_path.specs.Acts.{State}
use Rattle.block_path.specs.Routes.{target}
use Rattle.block_path.specs.WayIn.{from_wire}
use Rattle.block_path.specs.WayOut.{to_wire}
use Rattle.walk_laws.specs.Past.{brought_by}
use Rattle.walk_laws.specs.Settings.{Setting}
use Rattle.walk_laws.proofs.ScriptRows.{fail, flip, formatted, keep, seg}
use Rattle.mirror_laws.specs.Mirror.{Mirror, fresh, mirror_replies, mirror_walk}
use Rattle.mirror_laws.specs.OnLegs.{all_landed, blocks_on, come, comes_from, listed_written, marks_written, why_of, whys_written}
use Rattle.mirror_laws.specs.LegByLeg.{brought_of}
use Rattle.mirror_laws.specs.Stretches.{On0, good0, good1, needs}
use Rattle.mirror_laws.specs.Repair.{WalkedRepair, mirror_repair, steady}

abbrev pub with_faults : List FaultLine → Setting
with_faults faults = record {
  mode = record { kind = Crc; dix = true; dif = true; protect = 1; app = 0; mask = 0 };
  ty = One;
  size = 512;
  entries = Linear (record { start = 0; len = 1; dev = 0; at = 0 }) ∷ Linear (record { start = 1; len = 1; dev = 1; at = 0 }) ∷ [];
  site = record { faults = faults; device = target faults; cell = λ dev lba. dev };
  fails = λ op. false;
}

abbrev pub opening : State
opening = record { bytes = replicate 1100 0; blocks = formatted 0 ∷ formatted 0 ∷ []; logs = [] ∷ [] ∷ []; fates = [] }

abbrev pub ops : List Op
ops = Put 0 0 (0xAA ∷ []) ∷ Write 0 1 (seg 0 512) 0 ∷ Fetch 0 1 (seg 512 512) ∷ Show (record { page = 0; off = 512; len = 2 }) ∷ []

-- Leg 0 refuses the write, so its old data aren't read, and the repair writes them anew.
abbrev pub stale : Setting
stale = with_faults (flip 2 0 HostToAdapter 0 1)

stale_replies : mirror_replies stale 1 ops opening ≡ Silent ∷ Whole ∷ Whole ∷ Shown (0xAA ∷ 0 ∷ []) ∷ []
unfolding crc ip found_in to_medium from_medium to_wire from_wire run
stale_replies = refl

stale_marks : (mirror_walk stale 1 ops opening).marks ≡ record { leg0 = false; leg1 = true } ∷ []
unfolding crc ip found_in to_medium from_medium to_wire from_wire run
stale_marks = refl

abbrev stale_repair : WalkedRepair
stale_repair = mirror_repair stale 1 (mirror_walk stale 1 ops opening)

stale_counts : (stale_repair.repaired ≡ 1) × ((stale_repair.lost ≡ 0) × (stale_repair.marks ≡ fresh ∷ []))
unfolding crc ip found_in to_medium from_medium to_wire from_wire run
stale_counts = (refl, (refl, refl))

stale_blocks : (get_or (mirror_walk stale 1 ops opening).state.blocks 0 [] ≡ formatted 0) × (get_or stale_repair.blocks 0 [] ≡ get_or stale_repair.blocks 1 [])
unfolding crc ip found_in to_medium from_medium to_wire from_wire run
stale_blocks = (refl, refl)

-- Both legs fail on the read: the block is listed with the finding of leg 0, its page has zeros, and both legs are fresh.
abbrev unread : Setting
unread = with_faults (flip 3 0 TargetToAdapter 0 1 ++ flip 3 1 TargetToAdapter 0 1)

unread_replies : mirror_replies unread 1 ops opening ≡ Silent ∷ Whole ∷ Bad (record { k = 0; why = Adapter Guard } ∷ []) ∷ Shown (0 ∷ 0 ∷ []) ∷ []
unfolding crc ip found_in to_medium from_medium to_wire from_wire run
unread_replies = refl

abbrev unread_repair : WalkedRepair
unread_repair = mirror_repair unread 1 (mirror_walk unread 1 ops opening)

unread_counts : (unread_repair.repaired ≡ 0) × ((unread_repair.lost ≡ 0) × (unread_repair.marks ≡ fresh ∷ []))
unfolding crc ip found_in to_medium from_medium to_wire from_wire run
unread_counts = (refl, (refl, refl))

-- The medium of leg 0 can't store the block: as where the leg refuses it, and the repair writes it anew.
abbrev pub unstored : Setting
unstored = with_faults (fail 2 0)

unstored_replies : mirror_replies unstored 1 ops opening ≡ Silent ∷ Whole ∷ Whole ∷ Shown (0xAA ∷ 0 ∷ []) ∷ []
unfolding crc ip found_in to_medium from_medium to_wire from_wire run
unstored_replies = refl

unstored_marks : (mirror_walk unstored 1 ops opening).marks ≡ record { leg0 = false; leg1 = true } ∷ []
unfolding crc ip found_in to_medium from_medium to_wire from_wire run
unstored_marks = refl

abbrev unstored_repair : WalkedRepair
unstored_repair = mirror_repair unstored 1 (mirror_walk unstored 1 ops opening)

unstored_counts : (unstored_repair.repaired ≡ 1) × ((unstored_repair.lost ≡ 0) × (unstored_repair.marks ≡ fresh ∷ []))
unfolding crc ip found_in to_medium from_medium to_wire from_wire run
unstored_counts = (refl, (refl, refl))

-- It can't send it: the other leg serves it, and both stay fresh. Where neither medium sends it, the block is listed.
abbrev pub unsent : Setting
unsent = with_faults (fail 3 0)

unsent_replies : mirror_replies unsent 1 ops opening ≡ Silent ∷ Whole ∷ Whole ∷ Shown (0xAA ∷ 0 ∷ []) ∷ []
unfolding crc ip found_in to_medium from_medium to_wire from_wire run
unsent_replies = refl

unsent_marks : (mirror_walk unsent 1 ops opening).marks ≡ fresh ∷ []
unfolding crc ip found_in to_medium from_medium to_wire from_wire run
unsent_marks = refl

both_unsent : mirror_replies (with_faults (fail 3 0 ++ fail 3 1)) 1 ops opening ≡ Silent ∷ Whole ∷ Bad (record { k = 0; why = Medium } ∷ []) ∷ Shown (0 ∷ 0 ∷ []) ∷ []
unfolding crc ip found_in to_medium from_medium to_wire from_wire run
both_unsent = refl

-- Neither medium can store the block: it is listed, and both legs keep the old data.
abbrev pub neither_stored : Setting
neither_stored = with_faults (fail 2 0 ++ fail 2 1)

neither_replies : mirror_replies neither_stored 1 ops opening ≡ Silent ∷ Bad (record { k = 0; why = Medium } ∷ []) ∷ Whole ∷ Shown (0 ∷ 0 ∷ []) ∷ []
unfolding crc ip found_in to_medium from_medium to_wire from_wire run
neither_replies = refl

-- Leg 0 refuses the block, and the medium of leg 1 can't store it: the same.
abbrev pub good_failed : Setting
good_failed = with_faults (flip 2 0 HostToAdapter 0 1 ++ fail 2 1)

good_failed_replies : mirror_replies good_failed 1 ops opening ≡ Silent ∷ Bad (record { k = 0; why = Adapter Guard } ∷ []) ∷ Whole ∷ Shown (0 ∷ 0 ∷ []) ∷ []
unfolding crc ip found_in to_medium from_medium to_wire from_wire run
good_failed_replies = refl

-- The medium of leg 0 says that it has stored the block, and stores one byte of it. The target finds that, the other leg serves the read, and the repair writes it anew.
abbrev pub torn : Setting
torn = with_faults (keep 2 0 1)

torn_replies : mirror_replies torn 1 ops opening ≡ Silent ∷ Whole ∷ Whole ∷ Shown (0xAA ∷ 0 ∷ []) ∷ []
unfolding crc ip found_in to_medium from_medium to_wire from_wire run
torn_replies = refl

torn_marks : (mirror_walk torn 1 ops opening).marks ≡ fresh ∷ []
unfolding crc ip found_in to_medium from_medium to_wire from_wire run
torn_marks = refl

abbrev torn_repair : WalkedRepair
torn_repair = mirror_repair torn 1 (mirror_walk torn 1 ops opening)

torn_counts : (torn_repair.repaired ≡ 1) × ((torn_repair.lost ≡ 0) × (torn_repair.marks ≡ fresh ∷ []))
unfolding crc ip found_in to_medium from_medium to_wire from_wire run
torn_counts = (refl, (refl, refl))

-- All but the last byte are stored, and that one is as it was: that can't be told from the whole block.
abbrev pub unfound : Setting
unfound = with_faults (keep 2 0 519)

-- It says so, and stores nothing: its leg is believed, and the read has the old data.
abbrev pub lost : Setting
lost = with_faults (keep 2 0 0)

lost_replies : mirror_replies lost 1 ops opening ≡ Silent ∷ Whole ∷ Whole ∷ Shown (0 ∷ 0 ∷ []) ∷ []
unfolding crc ip found_in to_medium from_medium to_wire from_wire run
lost_replies = refl

-- ---- leg by leg

-- the mirror before the write, and after it
abbrev before : Mirror
before = mirror_walk stale 1 (Put 0 0 (0xAA ∷ []) ∷ []) opening

abbrev after : Mirror
after = mirror_walk stale 1 (Put 0 0 (0xAA ∷ []) ∷ Write 0 1 (seg 0 512) 0 ∷ []) opening

-- The write is refused on leg 0 and accepted on leg 1, so it isn't listed.
found_written : (whys_written stale (blocks_on 2 0 0 1) (brought_of stale 1 (seg 0 512) 0 before) ≡ Some (Adapter Guard) ∷ []) × (whys_written stale (blocks_on 2 1 1 1) (brought_of stale 1 (seg 0 512) 0 before) ≡ None ∷ [])
unfolding crc ip found_in to_medium from_medium to_wire from_wire run
found_written = (refl, refl)

marks_are : marks_written 0 (Some (Adapter Guard) ∷ []) (None ∷ []) before.marks ≡ record { leg0 = false; leg1 = true } ∷ []
marks_are = refl

listed_are : listed_written (Some (Adapter Guard) ∷ Some (Adapter Guard) ∷ None ∷ []) (None ∷ Some Short ∷ None ∷ []) ≡ None ∷ Some (Adapter Guard) ∷ None ∷ []
listed_are = refl

-- The read asks leg 1 alone, and what it lands begins with the byte that was put.
came_of_read : (map why_of (comes_from stale 1 3 1 0 0 1 after.marks after.state.blocks) ≡ None ∷ []) × (take 2 (all_landed 512 (comes_from stale 1 3 1 0 0 1 after.marks after.state.blocks)) ≡ 0xAA ∷ 0 ∷ [])
unfolding crc ip found_in to_medium from_medium to_wire from_wire run
came_of_read = (refl, refl)

-- Where both legs are fresh and neither delivers, the block has the finding of leg 0; a stale leg isn't asked.
both_fail : come fresh (Err (Adapter Guard)) (Err Short) ≡ Err (Adapter Guard)
both_fail = refl

other_stale : come (record { leg0 = true; leg1 = false }) (Err Short) (Ok (7 ∷ [])) ≡ Err Short
other_stale = refl

first_stale : come (record { leg0 = false; leg1 = true }) (Ok (7 ∷ [])) (Err Short) ≡ Err Short
first_stale = refl

-- The repair writes what leg 1 has to leg 0.
abbrev opened_repair : WalkedRepair
opened_repair = record { blocks = after.state.blocks; marks = after.marks; repaired = 0; lost = 0 }

is_due : needs 512 (good0 (steady stale) 1 0 1 opened_repair) (good1 (steady stale) 1 0 1 opened_repair) ≡ On0 (brought_by 512 (get_or after.state.blocks 1 [])) ∷ []
unfolding crc ip found_in to_medium from_medium to_wire from_wire run
is_due = refl
