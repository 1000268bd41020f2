-- Faults that have the form, and faults on each side of its limits, worked by hand.
use Rattle.std.proofs.Common.{◌≡◌, ◌<◌, ℕ, zero, suc, true, false, List, [], ◌∷◌, ◌++◌, get_or, refl, arith}
use Rattle.std.specs.Prelude.{pos, All, replicate, drop}
use Rattle.std.proofs.lemmas.List.Elements.{All-cons, All-nil}
use Rattle.pi_guard.specs.Guards.{crc, ip}
use Rattle.pi_guard.specs.declared.GuardKind.TheVariants.{Crc, Ip}
use Rattle.pi_tuple.specs.declared.checks.PiType.TheVariants.{One}
use Rattle.page_pool.specs.Places.{run}
use Rattle.fault_schedule.specs.declared.fault.Crossing.{Crossing}
use Rattle.fault_schedule.specs.declared.fault.Crossing.TheVariants.{AdapterToHost, AdapterToTarget, HostToAdapter, MediumToTarget, TargetToAdapter, TargetToMedium}
use Rattle.fault_schedule.specs.declared.fault.FaultKind.TheVariants.{Flip, Shift, Keep, Fail}
use Rattle.fault_schedule.specs.declared.fault.FaultLine.{FaultLine}
use Rattle.stack_ops.specs.Passed.{Copy}
use Rattle.stack_ops.specs.declared.op.Op.{Op}
use Rattle.stack_ops.specs.declared.op.Op.TheVariants.{Fetch, Overwrite, Seal, Write, WritePi}
use Rattle.rig_api.specs.Passing.{found_in, from_medium, to_medium}
use Rattle.block_path.specs.WayIn.{from_wire}
use Rattle.block_path.specs.WayOut.{to_wire}
use Rattle.run_laws.specs.Passed.{detectable, steps_from, Setting, IsClean, address_of, home}
use Rattle.run_laws.proofs.Passed.{calm_run, opening, seg, with_faults}
use Rattle.run_premises.specs.Forms.{escapes_none, shows_by_form}
use Rattle.run_premises.specs.FormedRun.{HasFormedFaults, IsOfBytes}

abbrev line : (op : ℕ) → Crossing → (off : ℕ) → List ℕ → FaultLine
line op at off bytes = record { op = op; k = 0; at = at; kind = Flip off bytes }

abbrev write_and_read : List Op
write_and_read = Write 0 1 (seg 0 512) 0 ∷ Fetch 0 1 (seg 0 512) ∷ []

abbrev one_write : List Op
one_write = Write 0 1 (seg 0 512) 0 ∷ []

-- Two bytes at the host, but not by FFFFh over the checksum, wherever the two lie.
host_two : shows_by_form Ip 512 (line 1 HostToAdapter 17 (1 ∷ 0xFF ∷ []) ∷ []) one_write ≡ true
host_two = refl

host_all : shows_by_form Ip 512 (line 1 HostToAdapter 17 (0xFF ∷ 0xFF ∷ []) ∷ []) one_write ≡ false
host_all = refl

across_all : shows_by_form Ip 512 (line 1 HostToAdapter 511 (0xFF ∷ 0xFF ∷ []) ∷ []) one_write ≡ false
across_all = refl

crc_all : shows_by_form Crc 512 (line 1 HostToAdapter 17 (0xFF ∷ 0xFF ∷ []) ∷ []) one_write ≡ true
unfolding crc
crc_all = refl

-- Two bytes that aren't neighbours are left to the CRC.
host_far : shows_by_form Ip 512 (line 1 HostToAdapter 17 (1 ∷ 0 ∷ 1 ∷ []) ∷ []) one_write ≡ false
host_far = refl

wire_far : shows_by_form Ip 512 (line 1 AdapterToTarget 17 (1 ∷ 0 ∷ 1 ∷ []) ∷ []) one_write ≡ true
unfolding crc
wire_far = refl

-- 018BB7h is the CRC's own polynomial.
polynomial : shows_by_form Crc 512 (line 1 AdapterToTarget 17 (0x01 ∷ 0x8B ∷ 0xB7 ∷ []) ∷ []) one_write ≡ false
unfolding crc
polynomial = refl

-- The guard's bytes count, those of the tags don't.
guard_too : shows_by_form Crc 512 (line 1 TargetToMedium 513 (1 ∷ []) ∷ []) one_write ≡ true
unfolding crc
guard_too = refl

tag_not : shows_by_form Crc 512 (line 1 TargetToMedium 513 (1 ∷ 1 ∷ []) ∷ []) one_write ≡ false
unfolding crc
tag_not = refl

-- Two lines of one block and crossing are one flip: here one that alters two bytes, and one that alters none.
both_lines : shows_by_form Ip 512 (line 1 HostToAdapter 17 (1 ∷ []) ∷ line 1 HostToAdapter 18 (2 ∷ []) ∷ []) one_write ≡ true
both_lines = refl

no_lines : shows_by_form Ip 512 (line 1 HostToAdapter 17 (1 ∷ []) ∷ line 1 HostToAdapter 17 (1 ∷ []) ∷ []) one_write ≡ false
no_lines = refl

shifted : shows_by_form Crc 512 (record { op = 1; k = 0; at = AdapterToTarget; kind = Shift (pos 1) } ∷ []) one_write ≡ false
shifted = refl

-- A write that is lost, and a torn one.
lost : shows_by_form Crc 512 (record { op = 1; k = 0; at = TargetToMedium; kind = Keep 0 } ∷ []) one_write ≡ false
lost = refl

torn : shows_by_form Crc 512 (record { op = 1; k = 0; at = TargetToMedium; kind = Keep 260 } ∷ []) one_write ≡ false
torn = refl

-- A block that the medium fails, alone and beside a flip that has the form.
failed : shows_by_form Crc 512 (record { op = 1; k = 0; at = TargetToMedium; kind = Fail } ∷ []) one_write ≡ false
failed = refl

failed_read : shows_by_form Crc 512 (record { op = 2; k = 0; at = MediumToTarget; kind = Fail } ∷ []) write_and_read ≡ false
failed_read = refl

failed_beside : shows_by_form Crc 512 (line 1 AdapterToTarget 17 (1 ∷ []) ∷ record { op = 2; k = 0; at = TargetToMedium; kind = Fail } ∷ []) write_and_read ≡ false
unfolding crc
failed_beside = refl

overwritten : shows_by_form Crc 512 [] (Overwrite 0 2 (Copy 0 3) ∷ []) ≡ false
overwritten = refl

-- A flip on the way from the medium may undo one on the way there, and then nobody finds a block that was altered twice. On another block it can't.
abbrev undone : List FaultLine
undone = line 1 TargetToMedium 5 (1 ∷ []) ∷ line 2 MediumToTarget 5 (1 ∷ []) ∷ []

undone_form : shows_by_form Crc 512 undone write_and_read ≡ false
unfolding crc
undone_form = refl

undone_hides : detectable (with_faults Crc true true One 0 0 undone) (steps_from (with_faults Crc true true One 0 0 undone) 1 write_and_read) opening ≡ false
unfolding crc ip found_in to_medium from_medium to_wire from_wire run
undone_hides = refl

others_form : shows_by_form Crc 512 undone (Write 0 1 (seg 0 512) 0 ∷ Fetch 1 1 (seg 0 512) ∷ []) ≡ true
unfolding crc
others_form = refl

-- An application brings a wrong guard, and a flip makes it right: the guard of zeros is 0, and the pages have 1 there.
abbrev brought : List Op
brought = WritePi 0 1 (seg 0 512) (seg 600 8) ∷ []

abbrev mended : List FaultLine
mended = line 1 HostToAdapter 513 (1 ∷ []) ∷ []

mended_form : shows_by_form Crc 512 mended brought ≡ false
unfolding crc
mended_form = refl

abbrev wrong : List ℕ
wrong = replicate 601 0 ++ (1 ∷ replicate 498 0)

mended_hides : detectable (with_faults Crc true true One 0 0 mended) (steps_from (with_faults Crc true true One 0 0 mended) 1 brought) (record opening { bytes = wrong }) ≡ false
unfolding crc ip found_in to_medium from_medium to_wire from_wire run
mended_hides = refl

-- ---- escapes

no_tag : escapes_none write_and_read ≡ true
no_tag = refl

escape_tag : escapes_none (Write 0 1 (seg 0 512) 0xFFFF ∷ []) ≡ false
escape_tag = refl

app_tag : escapes_none (Seal 1 (seg 0 512) (seg 600 8) 0 0 ∷ brought) ≡ false
app_tag = refl

-- ---- a run that has all that the law asks for: a flip at each crossing, over the checksum

abbrev faults : List FaultLine
faults =
    line 1 HostToAdapter 511 (1 ∷ 2 ∷ [])
    ∷ line 2 AdapterToTarget 0 (0xFF ∷ 0xFF ∷ [])
    ∷ line 3 TargetToMedium 512 (0x80 ∷ 1 ∷ [])
    ∷ line 4 MediumToTarget 100 (1 ∷ 2 ∷ 3 ∷ [])
    ∷ line 5 TargetToAdapter 5 (1 ∷ [])
    ∷ line 6 AdapterToHost 6 (1 ∷ [])
    ∷ []

abbrev ops : List Op
ops =
    Write 0 1 (seg 0 512) 0x1234
    ∷ Write 0 1 (seg 0 512) 0x1234
    ∷ Write 1 1 (seg 0 512) 0x1234
    ∷ Fetch 0 1 (seg 0 512)
    ∷ Fetch 1 1 (seg 0 512)
    ∷ Fetch 2 1 (seg 0 512)
    ∷ []

abbrev m : Setting
m = with_faults Ip true true One 0 0 faults

clean : (v : ℕ) → v < 3 → false ≡ false → IsClean m (address_of m v) (get_or opening.blocks (home m v) [])
unfolding crc
clean zero l h = record { no_escape = refl; guard = refl; app = refl; rtag = λ k. refl }
clean (suc zero) l h = record { no_escape = refl; guard = refl; app = refl; rtag = λ k. refl }
clean (suc (suc zero)) l h = record { no_escape = refl; guard = refl; app = refl; rtag = λ k. refl }
clean (suc (suc (suc v))) l h = absurd (omega (arith, l))

one : (x : ℕ) → x < 256 → All (λ x. x < 256) (x ∷ [])
one x h = All-cons (λ (x : ℕ). x < 256) x [] h (All-nil (λ (x : ℕ). x < 256))

two : (x y : ℕ) → x < 256 → y < 256 → All (λ x. x < 256) (x ∷ y ∷ [])
two x y h k = All-cons (λ (x : ℕ). x < 256) x (y ∷ []) h (one y k)

abbrev P : FaultLine → Type 0
P f = IsOfBytes f.kind

formed_run : HasFormedFaults m ops opening
unfolding crc
formed_run = record {
  checked = record { ty = refl; dix = refl; dif = refl; protect = refl; device = refl };
  even = refl;
  flips =
      All-cons P (line 1 HostToAdapter 511 (1 ∷ 2 ∷ [])) (drop 1 faults) (two 1 2 (omega arith) (omega arith))
      (All-cons P (line 2 AdapterToTarget 0 (0xFF ∷ 0xFF ∷ [])) (drop 2 faults) (two 0xFF 0xFF (omega arith) (omega arith))
      (All-cons P (line 3 TargetToMedium 512 (0x80 ∷ 1 ∷ [])) (drop 3 faults) (two 0x80 1 (omega arith) (omega arith))
      (All-cons P (line 4 MediumToTarget 100 (1 ∷ 2 ∷ 3 ∷ [])) (drop 4 faults) (All-cons (λ (x : ℕ). x < 256) 1 (2 ∷ 3 ∷ []) (omega arith) (two 2 3 (omega arith) (omega arith)))
      (All-cons P (line 5 TargetToAdapter 5 (1 ∷ [])) (drop 5 faults) (one 1 (omega arith))
      (All-cons P (line 6 AdapterToHost 6 (1 ∷ [])) [] (one 1 (omega arith)) (All-nil P))))));
  pages = calm_run.pages;
  lies = record { within = calm_run.lies.within; apart = calm_run.lies.apart; size = calm_run.lies.size; bytes = calm_run.lies.bytes };
  clean = clean;
  fit = (
    (record { within = omega arith; bytes_are = refl }, omega arith),
    (
      (record { within = omega arith; bytes_are = refl }, omega arith),
      ((record { within = omega arith; bytes_are = refl }, omega arith), (omega arith, (omega arith, (omega arith, tt)))),
    ),
  );
  no_escape = ((λ h. refl, tt), ((λ h. refl, tt), ((λ h. refl, tt), ((tt, tt), ((tt, tt), ((tt, tt), tt))))));
  form = refl;
}
