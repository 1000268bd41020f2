-- Scripts worked by hand, on pages of 1,100 bytes and a unit of five formatted blocks. Virtual block 0 lies at address 2.
use Rattle.std.proofs.Common.{◌≡◌, ◌<◌, ℕ, zero, suc, Bool, true, false, List, [], ◌∷◌, ◌++◌, length, drop, get_or, refl, sym, arith}
use Rattle.std.specs.List.{All}
use Rattle.std.proofs.lemmas.List.Elements.{All-append, All-cons, All-nil, All-replicate}
use Rattle.std.specs.Prelude.{replicate, ℤ, pos}
use Rattle.pi_guard.specs.Guards.{crc, ip}
use Rattle.pi_guard.specs.declared.GuardKind.{GuardKind}
use Rattle.pi_guard.specs.declared.GuardKind.TheVariants.{Crc, Ip}
use Rattle.pi_tuple.specs.declared.checks.Check.TheVariants.{AppTag, Guard, RefTag}
use Rattle.pi_tuple.specs.declared.checks.PiType.{PiType}
use Rattle.pi_tuple.specs.declared.checks.PiType.TheVariants.{One, Three, Two}
use Rattle.page_pool.specs.declared.segs.Seg.{Seg}
use Rattle.page_pool.specs.Places.{run}
use Rattle.fault_schedule.specs.declared.fault.Crossing.{Crossing}
use Rattle.fault_schedule.specs.declared.fault.Crossing.TheVariants.{AdapterToHost, AdapterToTarget, MediumToTarget, TargetToMedium}
use Rattle.fault_schedule.specs.declared.fault.FaultKind.TheVariants.{Flip, Shift, Keep, Fail}
use Rattle.fault_schedule.specs.declared.fault.FaultLine.{FaultLine}
use Rattle.stack_ops.specs.Passed.{Copy, Why, Adapter, App, Medium, Target}
use Rattle.stack_ops.specs.declared.op.Op.{Op}
use Rattle.stack_ops.specs.declared.op.Op.TheVariants.{Fetch, FetchPi, Fill, Overwrite, Put, Seal, Show, Write, WritePi}
use Rattle.stack_ops.specs.declared.reply.Reply.{Reply}
use Rattle.stack_ops.specs.declared.reply.Reply.TheVariants.{Bad, Shown, Silent, Whole}
use Rattle.block_path.specs.Passed.{tuple_of, found_in, from_medium, to_medium}
use Rattle.volume_table.specs.declared.entry.Entry.TheVariants.{Linear}
use Rattle.block_path.specs.Acts.{State}
use Rattle.block_path.specs.Routes.{target}
use Rattle.block_path.specs.WayIn.{from_wire}
use Rattle.block_path.specs.WayOut.{to_wire}
use Rattle.walk_laws.specs.Settings.{Setting}
use Rattle.walk_laws.specs.CalmRun.{IsCalmRun}
use Rattle.walk_laws.specs.PlainMap.{plain_map, plain_replies}
use Rattle.walk_laws.specs.ScriptWalk.{script_replies, script_walk}
use Rattle.walk_laws.specs.UnderMap.{IsClean, address_of, home, opened, under}
use Rattle.small_laws.proofs.Tests.{never}

abbrev pub with_faults : GuardKind → Bool → Bool → PiType → (app mask : ℕ) → List FaultLine → Setting
with_faults kind dix dif ty app mask faults = record {
  mode = record { kind = kind; dix = dix; dif = dif; protect = 1; app = app; mask = mask };
  ty = ty;
  size = 512;
  entries = Linear (record { start = 0; len = 3; dev = 0; at = 2 }) ∷ [];
  site = record { faults = faults; device = target faults; cell = λ dev lba. lba };
  fails = λ op. false;
}

abbrev calm : GuardKind → Bool → Bool → PiType → Setting
calm kind dix dif ty = with_faults kind dix dif ty 0 0 []

abbrev pub seg : (off len : ℕ) → List Seg
seg off len = record { page = 0; off = off; len = len } ∷ []

abbrev first_seg : (off len : ℕ) → Seg
first_seg off len = record { page = 0; off = off; len = len }

abbrev pub formatted : ℕ → List ℕ
formatted a = replicate 519 0 ++ (a ∷ [])

abbrev pub opening : State
opening = record {
  bytes = replicate 1100 0;
  blocks = formatted 0 ∷ formatted 1 ∷ formatted 2 ∷ formatted 3 ∷ formatted 4 ∷ [];
  logs = [] ∷ [] ∷ [] ∷ [] ∷ [] ∷ [];
  fates = [];
}

abbrev one_block : List Op
one_block = Write 0 1 (seg 0 512) 0x1234 ∷ FetchPi 0 1 (seg 0 512) (seg 600 8) ∷ Show (first_seg 600 8) ∷ []

-- the guard of zeros is 0000h as a CRC and FFFFh as a checksum
crc_passed : script_replies (calm Crc true true One) one_block opening ≡ Whole ∷ Whole ∷ Shown (0 ∷ 0 ∷ 0x12 ∷ 0x34 ∷ 0 ∷ 0 ∷ 0 ∷ 0 ∷ []) ∷ []
unfolding crc ip found_in to_medium from_medium to_wire from_wire run
crc_passed = refl

ip_passed : script_replies (calm Ip true true One) one_block opening ≡ Whole ∷ Whole ∷ Shown (0xFF ∷ 0xFF ∷ 0x12 ∷ 0x34 ∷ 0 ∷ 0 ∷ 0 ∷ 0 ∷ []) ∷ []
unfolding crc ip found_in to_medium from_medium to_wire from_wire run
ip_passed = refl

-- Only passed tuples keep an application tag.
ip_stripped : script_replies (calm Ip true false One) one_block opening ≡ Whole ∷ Whole ∷ Shown (0xFF ∷ 0xFF ∷ 0 ∷ 0 ∷ 0 ∷ 0 ∷ 0 ∷ 0 ∷ []) ∷ []
unfolding crc ip found_in to_medium from_medium to_wire from_wire run
ip_stripped = refl

-- the tuple that is stored at an address
abbrev stored_at : Setting → List Op → ℕ → List ℕ
stored_at m ops lba = drop 512 (get_or (script_walk m ops opening).blocks lba [])

ip_stored : stored_at (calm Ip true true One) one_block 2 ≡ 0 ∷ 0 ∷ 0x12 ∷ 0x34 ∷ 0 ∷ 0 ∷ 0 ∷ 2 ∷ []
unfolding crc ip found_in to_medium from_medium to_wire from_wire run
ip_stored = refl

stripped_stored : stored_at (calm Ip true false One) one_block 2 ≡ 0 ∷ 0 ∷ 0 ∷ 0 ∷ 0 ∷ 0 ∷ 0 ∷ 2 ∷ []
unfolding crc ip found_in to_medium from_medium to_wire from_wire run
stripped_stored = refl

abbrev pub write_and_read : List Op
write_and_read = Write 0 1 (seg 0 512) 0 ∷ Fetch 0 1 (seg 0 512) ∷ []

inserted_stored : stored_at (calm Ip false true Two) write_and_read 2 ≡ 0 ∷ 0 ∷ 0 ∷ 0 ∷ 0 ∷ 0 ∷ 0 ∷ 2 ∷ []
unfolding crc ip found_in to_medium from_medium to_wire from_wire run
inserted_stored = refl

no_tuple_anywhere : script_replies (calm Ip false false One) write_and_read opening ≡ Whole ∷ Whole ∷ []
unfolding crc ip found_in to_medium from_medium to_wire from_wire run
no_tuple_anywhere = refl

abbrev lists : ℕ → Why → Reply
lists k why = Bad (record { k = k; why = why } ∷ [])

-- A foreign tag is found, and left as it is.
foreign_tag : script_replies (calm Crc true true One)
    (Seal 2 (seg 0 1024) (seg 1040 16) 0 0 ∷ Put 0 1052 (0 ∷ 0 ∷ 0 ∷ 9 ∷ []) ∷ WritePi 0 2 (seg 0 1024) (seg 1040 16) ∷ Show (first_seg 1040 16) ∷ []) opening
    ≡ Silent ∷ Silent ∷ lists 1 (Adapter RefTag) ∷ Shown (0 ∷ 0 ∷ 0 ∷ 0 ∷ 0 ∷ 0 ∷ 0 ∷ 0 ∷ 0 ∷ 0 ∷ 0 ∷ 0 ∷ 0 ∷ 0 ∷ 0 ∷ 9 ∷ []) ∷ []
unfolding crc ip found_in to_medium from_medium to_wire from_wire run
foreign_tag = refl

abbrev pub flip : (op k : ℕ) → Crossing → (off byte : ℕ) → List FaultLine
flip op k at off byte = record { op = op; k = k; at = at; kind = Flip off (byte ∷ []) } ∷ []

abbrev pub shift : (op : ℕ) → Crossing → ℤ → List FaultLine
shift op at by = record { op = op; k = 0; at = at; kind = Shift by } ∷ []

abbrev pub faulty : List FaultLine → Setting
faulty faults = with_faults Crc true true One 0 0 faults

on_the_wire_out : script_replies (faulty (flip 1 0 AdapterToTarget 0 1)) write_and_read opening ≡ lists 0 (Target Guard) ∷ Whole ∷ []
unfolding crc ip found_in to_medium from_medium to_wire from_wire run
on_the_wire_out = refl

on_the_medium : script_replies (faulty (flip 1 0 TargetToMedium 5 0x80)) (write_and_read ++ write_and_read) opening ≡ Whole ∷ lists 0 (Target Guard) ∷ Whole ∷ Whole ∷ []
unfolding crc ip found_in to_medium from_medium to_wire from_wire run
on_the_medium = refl

abbrev pub keep : (op k bytes : ℕ) → List FaultLine
keep op k bytes = record { op = op; k = k; at = TargetToMedium; kind = Keep bytes } ∷ []

abbrev filled : List Op
filled = Fill (first_seg 0 512) 7 ∷ write_and_read

-- A write that is lost is acknowledged, and the read after it is given what stood there.
lost_write : script_replies (faulty (keep 2 0 0)) (filled ++ (Show (first_seg 0 1) ∷ [])) opening ≡ Silent ∷ Whole ∷ Whole ∷ Shown (0 ∷ []) ∷ []
unfolding crc ip found_in to_medium from_medium to_wire from_wire run
lost_write = refl

-- Of a torn one the target finds the guard wrong.
torn_write : script_replies (faulty (keep 2 0 260)) filled opening ≡ Silent ∷ Whole ∷ lists 0 (Target Guard) ∷ []
unfolding crc ip found_in to_medium from_medium to_wire from_wire run
torn_write = refl

abbrev pub fail : (op k : ℕ) → List FaultLine
fail op k = record { op = op; k = k; at = TargetToMedium; kind = Fail } ∷ []

-- A write that the medium fails is listed, and the read after it is given what stood there.
failed_write : script_replies (faulty (fail 2 0)) (filled ++ (Show (first_seg 0 1) ∷ [])) opening ≡ Silent ∷ lists 0 Medium ∷ Whole ∷ Shown (0 ∷ []) ∷ []
unfolding crc ip found_in to_medium from_medium to_wire from_wire run
failed_write = refl

-- A read that it fails is listed, and the block stays as it is.
failed_read : script_replies (faulty (fail 3 0)) (filled ++ (Fetch 0 1 (seg 0 512) ∷ Show (first_seg 0 1) ∷ [])) opening ≡ Silent ∷ Whole ∷ lists 0 Medium ∷ Whole ∷ Shown (7 ∷ []) ∷ []
unfolding crc ip found_in to_medium from_medium to_wire from_wire run
failed_read = refl

-- Beside it the target's check of a write comes first, and that of a read isn't come to.
failed_behind_a_check : script_replies (faulty (fail 2 0 ++ flip 2 0 AdapterToTarget 0 1)) filled opening ≡ Silent ∷ lists 0 (Target Guard) ∷ Whole ∷ []
unfolding crc ip found_in to_medium from_medium to_wire from_wire run
failed_behind_a_check = refl

failed_before_a_check : script_replies (faulty (flip 3 0 MediumToTarget 0 1 ++ fail 3 0)) filled opening ≡ Silent ∷ Whole ∷ lists 0 Medium ∷ []
unfolding crc ip found_in to_medium from_medium to_wire from_wire run
failed_before_a_check = refl

-- A line of another block fails none of these.
other_block_fails : script_replies (faulty (fail 2 1 ++ fail 9 0)) filled opening ≡ Silent ∷ Whole ∷ Whole ∷ []
unfolding crc ip found_in to_medium from_medium to_wire from_wire run
other_block_fails = refl

abbrev reads : List Op
reads = Fetch 0 2 (seg 0 1024) ∷ []

abbrev both : Why → List Reply
both why = Bad (record { k = 0; why = why } ∷ record { k = 1; why = why } ∷ []) ∷ []

shifted_on_the_wire : script_replies (faulty (shift 1 AdapterToTarget (pos 1))) reads opening ≡ both (Adapter RefTag)
unfolding crc ip found_in to_medium from_medium to_wire from_wire run
shifted_on_the_wire = refl

shifted_on_the_medium : script_replies (faulty (shift 1 MediumToTarget (pos 1))) reads opening ≡ both (Target RefTag)
unfolding crc ip found_in to_medium from_medium to_wire from_wire run
shifted_on_the_medium = refl

abbrev with_tuple : List Op
with_tuple = FetchPi 0 1 (seg 0 512) (seg 600 8) ∷ Show (first_seg 511 1) ∷ []

-- A block that isn't delivered leaves zeros.
at_the_host : script_replies (faulty (flip 1 0 AdapterToHost 511 1)) with_tuple opening ≡ lists 0 (App Guard) ∷ Shown (0 ∷ []) ∷ []
unfolding crc ip found_in to_medium from_medium to_wire from_wire run
at_the_host = refl

-- The altered tag is the virtual one: nothing is found.
undetectable : script_replies (faulty (flip 1 0 AdapterToHost 519 2)) (Fetch 0 1 (seg 0 512) ∷ []) opening ≡ Whole ∷ []
unfolding crc ip found_in to_medium from_medium to_wire from_wire run
undetectable = refl

overwritten : script_replies (faulty []) (Overwrite 0 2 (Copy 0 3) ∷ Fetch 0 1 (seg 0 512) ∷ []) opening ≡ Silent ∷ lists 0 (Target RefTag) ∷ []
unfolding crc ip found_in to_medium from_medium to_wire from_wire run
overwritten = refl

abbrev brought : List ℕ → List Op
brought tuple = Put 0 600 tuple ∷ WritePi 0 1 (seg 0 512) (seg 600 8) ∷ []

-- Type 3 has no escape by its application tag alone.
no_escape : script_replies (calm Crc true true Three) (brought (0xFF ∷ 0xFF ∷ 0xFF ∷ 0xFF ∷ 0 ∷ 0 ∷ 0 ∷ 0 ∷ [])) opening ≡ Silent ∷ lists 0 (Adapter Guard) ∷ []
unfolding crc ip found_in to_medium from_medium to_wire from_wire run
no_escape = refl

escape : stored_at (calm Crc true true Three) (brought (replicate 8 0xFF)) 2 ≡ replicate 8 0xFF
unfolding crc ip found_in to_medium from_medium to_wire from_wire run
escape = refl

-- An application tag that is expected under a mask: a write and a read of each kind.
expected_tag : script_replies (with_faults Crc true true One 0x1200 0xFF00 [])
    (Write 0 1 (seg 0 512) 0x1234 ∷ Write 1 1 (seg 0 512) 0x3412 ∷ Fetch 0 1 (seg 0 512) ∷ Fetch 2 1 (seg 0 512) ∷ []) opening
    ≡ Whole ∷ lists 0 (Adapter AppTag) ∷ Whole ∷ lists 0 (Adapter AppTag) ∷ []
unfolding crc ip found_in to_medium from_medium to_wire from_wire run
expected_tag = refl

-- In type 2 the target is told it.
expected_by_target : script_replies (with_faults Crc true true Two 0x1234 0xFFFF []) (Fetch 0 1 (seg 0 512) ∷ []) opening ≡ lists 0 (Target AppTag) ∷ []
unfolding crc ip found_in to_medium from_medium to_wire from_wire run
expected_by_target = refl

-- The plain map replies the same, and the image under it has the same tuple.
abbrev plainly : Setting → List Op → List Reply
plainly m ops = plain_replies m ops (opened m opening)

abbrev under_map : Setting → List Op → ℕ → List ℕ
under_map m ops lba = drop 512 (get_or (under m 0 (plain_map m ops (opened m opening)).map opening.blocks) lba [])

plainly_passed : plainly (calm Ip true true One) one_block ≡ Whole ∷ Whole ∷ Shown (0xFF ∷ 0xFF ∷ 0x12 ∷ 0x34 ∷ 0 ∷ 0 ∷ 0 ∷ 0 ∷ []) ∷ []
unfolding crc ip run
plainly_passed = refl

plainly_passed_under : under_map (calm Ip true true One) one_block 2 ≡ 0 ∷ 0 ∷ 0x12 ∷ 0x34 ∷ 0 ∷ 0 ∷ 0 ∷ 2 ∷ []
unfolding crc ip run
plainly_passed_under = refl

plainly_stripped : plainly (calm Ip true false One) one_block ≡ Whole ∷ Whole ∷ Shown (0xFF ∷ 0xFF ∷ 0 ∷ 0 ∷ 0 ∷ 0 ∷ 0 ∷ 0 ∷ []) ∷ []
unfolding crc ip run
plainly_stripped = refl

plainly_stripped_under : under_map (calm Ip true false One) one_block 2 ≡ 0 ∷ 0 ∷ 0 ∷ 0 ∷ 0 ∷ 0 ∷ 0 ∷ 2 ∷ []
unfolding crc ip run
plainly_stripped_under = refl

plainly_inserted_under : under_map (calm Ip false true Two) write_and_read 2 ≡ 0 ∷ 0 ∷ 0 ∷ 0 ∷ 0 ∷ 0 ∷ 0 ∷ 2 ∷ []
unfolding crc ip run
plainly_inserted_under = refl

plainly_foreign : plainly (calm Crc true true One)
    (Seal 2 (seg 0 1024) (seg 1040 16) 0 0 ∷ Put 0 1052 (0 ∷ 0 ∷ 0 ∷ 9 ∷ []) ∷ WritePi 0 2 (seg 0 1024) (seg 1040 16) ∷ Show (first_seg 1040 16) ∷ [])
    ≡ Silent ∷ Silent ∷ lists 1 (Adapter RefTag) ∷ Shown (0 ∷ 0 ∷ 0 ∷ 0 ∷ 0 ∷ 0 ∷ 0 ∷ 0 ∷ 0 ∷ 0 ∷ 0 ∷ 0 ∷ 0 ∷ 0 ∷ 0 ∷ 9 ∷ []) ∷ []
unfolding crc ip run
plainly_foreign = refl

plainly_expected : plainly (with_faults Crc true true One 0x1200 0xFF00 []) (Write 0 1 (seg 0 512) 0x1234 ∷ Write 1 1 (seg 0 512) 0x3412 ∷ []) ≡ Whole ∷ lists 0 (Adapter AppTag) ∷ []
unfolding crc ip run
plainly_expected = refl

-- The premises of the law on such runs can be told apart: the formatted block is clean, and one of another address isn't.
formatted_is_clean : IsClean (calm Crc true true One) 2 (formatted 2)
unfolding crc
formatted_is_clean = record { no_escape = refl; guard = refl; app = refl; rtag = λ h. refl }

misplaced_is_not : (tuple_of 512 (formatted 3)).rtag ≡ 3
misplaced_is_not = refl

-- A run that meets all that the law asks for.
pub calm_run : IsCalmRun (calm Ip true true One) one_block opening
unfolding crc
calm_run = record {
  calm = record { faults = refl; device = refl; fails = λ op. refl; protect = omega arith; mask = λ h. never (sym h) };
  pages = All-replicate (λ x. x < 256) 1100 0 (omega arith);
  lies = record { within = within; apart = apart; size = size; bytes = bytes };
  clean = clean;
  fit = ((record { within = omega arith; bytes_are = refl }, omega arith), (omega arith, (tt, tt)));
  no_escape = ((λ h. refl, tt), ((tt, tt), ((tt, tt), tt)));
}
  where
    within : (v : ℕ) → v < 3 → home (calm Ip true true One) v < 5
    within zero l = omega arith
    within (suc zero) l = omega arith
    within (suc (suc zero)) l = omega arith
    within (suc (suc (suc v))) l = absurd (omega (arith, l))

    apart : (u v : ℕ) → u < 3 → v < 3 → home (calm Ip true true One) u ≡ home (calm Ip true true One) v → u ≡ v
    apart zero zero k l e = refl
    apart zero (suc zero) k l e = absurd (omega (arith, e))
    apart zero (suc (suc zero)) k l e = absurd (omega (arith, e))
    apart (suc zero) zero k l e = absurd (omega (arith, e))
    apart (suc zero) (suc zero) k l e = refl
    apart (suc zero) (suc (suc zero)) k l e = absurd (omega (arith, e))
    apart (suc (suc zero)) zero k l e = absurd (omega (arith, e))
    apart (suc (suc zero)) (suc zero) k l e = absurd (omega (arith, e))
    apart (suc (suc zero)) (suc (suc zero)) k l e = refl
    apart (suc (suc (suc u))) v k l e = absurd (omega (arith, k))
    apart u (suc (suc (suc v))) k l e = absurd (omega (arith, l))

    size : (v : ℕ) → v < 3 → length (get_or opening.blocks (home (calm Ip true true One) v) []) ≡ 520
    size zero l = refl
    size (suc zero) l = refl
    size (suc (suc zero)) l = refl
    size (suc (suc (suc v))) l = absurd (omega (arith, l))

    made_of_bytes : (a : ℕ) → a < 256 → All (λ x. x < 256) (formatted a)
    made_of_bytes a l = All-append (λ x. x < 256) (replicate 519 0) (a ∷ []) (All-replicate (λ x. x < 256) 519 0 (omega arith)) (All-cons (λ x. x < 256) a [] l (All-nil (λ x. x < 256)))

    bytes : (v : ℕ) → v < 3 → All (λ x. x < 256) (get_or opening.blocks (home (calm Ip true true One) v) [])
    bytes zero l = made_of_bytes 2 (omega arith)
    bytes (suc zero) l = made_of_bytes 3 (omega arith)
    bytes (suc (suc zero)) l = made_of_bytes 4 (omega arith)
    bytes (suc (suc (suc v))) l = absurd (omega (arith, l))

    clean : (v : ℕ) → v < 3 → false ≡ false → IsClean (calm Ip true true One) (address_of (calm Ip true true One) v) (get_or opening.blocks (home (calm Ip true true One) v) [])
    clean zero l h = record { no_escape = refl; guard = refl; app = refl; rtag = λ k. refl }
    clean (suc zero) l h = record { no_escape = refl; guard = refl; app = refl; rtag = λ k. refl }
    clean (suc (suc zero)) l h = record { no_escape = refl; guard = refl; app = refl; rtag = λ k. refl }
    clean (suc (suc (suc v))) l h = absurd (omega (arith, l))
